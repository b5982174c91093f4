-- What more than half of all places name is what is voted, and nothing else is.
use Rattle.std.proofs.Common.{◌≡◌, ◌≢◌, ℕ, zero, suc, ◌+◌, ◌*◌, ◌<◌, ◌≤◌, Bool, true, false, cond, List, [], ◌∷◌, map, length, Option, Some, None, count_by, Decides, refl, sym, subst, ap, ◌∙◌, arith, inl, inr, find, filter_map, get_or, option_map, nat_eq, nat_lt, pos, ap₂, ℤ}
use Rattle.std.proofs.lemmas.Int.{ints}
use Rattle.std.specs.Prelude.{IfSome}
use Rattle.std.proofs.lemmas.Option.{none-some, same_Some}
use Rattle.std.proofs.lemmas.List.{length-map}
use Rattle.std.specs.Ordering.{int_eq}
use Rattle.std.specs.List.{range_with_len}
use Rattle.std.proofs.lemmas.Bool.{cases_Bool, cond-true, cond-false, lt-ltb, ltb-true, true≢false, false_from_ne_true}
use Rattle.std.proofs.lemmas.Bool.Decides.{Decides-eqb, Decides-int_eq}
use Rattle.std.proofs.lemmas.List.FromFn.{length-map-range_with_len}
use Rattle.rcp_base.specs.Majority.{names_value, has_majority, IsMajority, majority_of}
use Rattle.rcp_base.specs.Tables.{table}
use Rattle.rcp_base.proofs.CountLaws.{count_by-cons, count_mono}

-- two values are not both named by one place
one_place : {X : Type 0} (same : X → X → Bool) (dec : (x y : X) → Decides (same x y) (x ≡ y)) (v w : X) → v ≢ w → (o : Option X) → cond (names_value same v o) 1 0 + cond (names_value same w o) 1 0 ≤ 1
one_place same dec v w ne None = omega arith
one_place same dec v w ne (Some x) = go (same v x) (same w x) (dec v x).0 (dec w x).0
  where
    go : (b c : Bool) → (b ≡ true → v ≡ x) → (c ≡ true → w ≡ x) → cond b 1 0 + cond c 1 0 ≤ 1
    go false false p q = omega arith
    go false true p q = omega arith
    go true false p q = omega arith
    go true true p q = absurd (ne (p refl ∙ sym (q refl)))

two_counts : {X : Type 0} (same : X → X → Bool) (dec : (x y : X) → Decides (same x y) (x ≡ y)) (v w : X) → v ≢ w → (xs : List (Option X)) → count_by (names_value same v) xs + count_by (names_value same w) xs ≤ length xs
two_counts same dec v w ne [] = omega arith
two_counts same dec v w ne (x ∷ xs) =
    omega (arith, count_by-cons (names_value same v) x xs, count_by-cons (names_value same w) x xs, one_place same dec v w ne x, two_counts same dec v w ne xs)

-- two values that a majority names are the same
pub same_majority : {X : Type 0} (same : X → X → Bool) (dec : (x y : X) → Decides (same x y) (x ≡ y)) (all : List (Option X)) (v w : X) → IsMajority same all v → IsMajority same all w → v ≡ w
same_majority same dec all v w a b = go (same v w) (dec v w)
  where
    go : (t : Bool) → Decides t (v ≡ w) → v ≡ w
    go true d = d.0 refl
    go false d = absurd (omega (arith, a, b, two_counts same dec v w (λ e. true≢false (sym (d.1 e))) all))

-- the first value that passes is the only one that does
first_is : {X : Type 0} (same : X → X → Bool) (dec : (x y : X) → Decides (same x y) (x ≡ y)) (test : X → Bool) (v : X) → test v ≡ true → ((w : X) → test w ≡ true → w ≡ v) → (xs : List (Option X)) → 0 < count_by (names_value same v) xs → find test (filter_map (λ place. place) xs) ≡ Some v
first_is same dec test v t only [] h = absurd (omega arith)
first_is same dec test v t only (None ∷ xs) h = first_is same dec test v t only xs (omega (arith, h, count_by-cons (names_value same v) None xs))
first_is same dec test v t only (Some w ∷ xs) h = go (first_is same dec test v t only xs) (test w) refl
  where
    later : (0 < count_by (names_value same v) xs → find test (filter_map (λ place. place) xs) ≡ Some v) → test w ≡ false → (s : Bool) → Decides s (v ≡ w) → same v w ≡ s → find test (filter_map (λ place. place) xs) ≡ Some v
    later ih e true d q = absurd (true≢false (sym (subst (λ x. test x ≡ true) (d.0 refl) t) ∙ e))
    later ih e false d q = ih (omega (arith, h, count_by-cons (names_value same v) (Some w) xs, ap {B = ℕ} (λ b. cond b 1 0) q))

    go : (0 < count_by (names_value same v) xs → find test (filter_map (λ place. place) xs) ≡ Some v) → (b : Bool) → test w ≡ b → cond b (Some w) (find test (filter_map (λ place. place) xs)) ≡ Some v
    go ih true e = ap Some (only w e)
    go ih false e = later ih e (same v w) (dec v w) refl

-- what more than half of all places name is what is voted
pub majority_is : {X : Type 0} (same : X → X → Bool) (dec : (x y : X) → Decides (same x y) (x ≡ y)) (places : List (Option X)) (v : X) → IsMajority same places v → majority_of same places ≡ Some v
unfolding majority_of
majority_is same dec places v h =
    first_is same dec (has_majority same places) v (lt-ltb _ _ h) (λ w e. same_majority same dec places w v (ltb-true _ _ e) h) places (omega (arith, h))

-- where no value has a majority, none is voted
pub none_first : {X : Type 0} (test : X → Bool) (xs : List X) → ((w : X) → test w ≡ true → ⊥) → find test xs ≡ None
none_first test [] none = refl
none_first test (x ∷ xs) none = elim (cases_Bool (test x)) [
  | inl t ↦ absurd (none x t)
  | inr f ↦ cond-false _ _ _ f ∙ none_first test xs none
]

pub majority_none : {X : Type 0} (same : X → X → Bool) (places : List (Option X)) → ((v : X) → IsMajority same places v → ⊥) → majority_of same places ≡ None
unfolding majority_of
majority_none same places none = none_first (has_majority same places) (filter_map (λ place. place) places) (λ w t. none w (ltb-true _ _ t))

-- numbers of which more than half pass a test, at each of which a function names one value: that value has a majority
pub majority_all : {X : Type 0} (same : X → X → Bool) (dec : (x y : X) → Decides (same x y) (x ≡ y)) (n : ℕ) (good : ℕ → Bool) (f : ℕ → Option X) (v : X) → n < 2 * count_by good (range_with_len 0 n) → ((p : ℕ) → p < n → good p ≡ true → f p ≡ Some v) → IsMajority same (table n f) v
unfolding table
majority_all same dec n good f v many each =
    let named : count_by good (range_with_len 0 n) ≤ count_by (names_value same v) (map f (range_with_len 0 n)) = count_mono good f (names_value same v) 0 n (λ k l g. let e = each k (omega arith) g in rw e ((dec v v).1 refl)) in
    omega (arith, many, named, length-map-range_with_len f 0 n)

-- what is found in places was named by one
found_within : {X : Type 0} (P : X → Type 0) (test : X → Bool) (v : X) (xs : List (Option X)) → ((k : ℕ) → k < length xs → IfSome (get_or xs k None) P) → find test (filter_map (λ place. place) xs) ≡ Some v → P v
found_within P test v [] all e = absurd (none-some v e)
found_within P test v (None ∷ xs) all e = found_within P test v xs (λ k lt. all (suc k) (omega arith)) e
found_within P test v (Some w ∷ xs) all e = elim (cases_Bool (test w)) [
  | inl t ↦ subst P (same_Some w v (sym (cond-true _ _ _ t) ∙ e)) (all 0 (omega arith))
  | inr f ↦ found_within P test v xs (λ k lt. all (suc k) (omega arith)) (sym (cond-false _ _ _ f) ∙ e)
]

-- the majority's value has what each value that is named has
pub majority_within : {X : Type 0} (P : X → Type 0) (same : X → X → Bool) (places : List (Option X)) (v : X) → ((k : ℕ) → k < length places → IfSome (get_or places k None) P) → majority_of same places ≡ Some v → P v
unfolding majority_of
majority_within P same places v all e = found_within P (has_majority same places) v places all e

same_test : (n m : ℕ) → int_eq (pos n) (pos m) ≡ nat_eq n m
same_test n m = elim (cases_Bool (nat_eq n m)) [
  | inl e ↦ let is : n ≡ m = (Decides-eqb n m).0 e in (Decides-int_eq (pos n) (pos m)).1 (ap pos is) ∙ sym e
  | inr e ↦ false_from_ne_true _ (λ t. let h : pos n ≡ pos m = (Decides-int_eq (pos n) (pos m)).0 t in let is : n ≡ m = omega (arith, ints, h) in true≢false (sym ((Decides-eqb n m).1 is) ∙ e)) ∙ sym e
]

named_pos : (n : ℕ) (xs : List (Option ℕ)) → count_by (names_value int_eq (pos n)) (map (option_map pos) xs) ≡ count_by (names_value nat_eq n) xs
named_pos n [] = refl
named_pos n (None ∷ xs) = omega (arith, named_pos n xs, count_by-cons (names_value int_eq (pos n)) None (map (option_map pos) xs), count_by-cons (names_value nat_eq n) None xs)
named_pos n (Some m ∷ xs) = omega (arith, named_pos n xs, count_by-cons (names_value int_eq (pos n)) (Some (pos m)) (map (option_map pos) xs), count_by-cons (names_value nat_eq n) (Some m) xs, ap {B = ℕ} (λ b. cond b 1 0) (same_test n m))

find_pos : (test : ℤ → Bool) (other : ℕ → Bool) → ((n : ℕ) → test (pos n) ≡ other n) → (xs : List (Option ℕ)) → find test (filter_map (λ place. place) (map (option_map pos) xs)) ≡ option_map pos (find other (filter_map (λ place. place) xs))
find_pos test other h [] = refl
find_pos test other h (None ∷ xs) = find_pos test other h xs
find_pos test other h (Some n ∷ xs) = elim (cases_Bool (other n)) [
  | inl t ↦ cond-true _ _ _ (h n ∙ t) ∙ sym (ap (option_map pos) (cond-true _ _ _ t))
  | inr f ↦ cond-false _ _ _ (h n ∙ f) ∙ find_pos test other h xs ∙ sym (ap (option_map pos) (cond-false _ _ _ f))
]

-- the vote over numbers that are not negative is the same over whole numbers
pub majority_pos : (xs : List (Option ℕ)) → majority_of int_eq (map (option_map pos) xs) ≡ option_map pos (majority_of nat_eq xs)
unfolding majority_of
majority_pos xs = find_pos (has_majority int_eq (map (option_map pos) xs)) (has_majority nat_eq xs)
    (λ n. ap₂ (λ (a b : ℕ). nat_lt a (2 * b)) (length-map xs (option_map pos)) (named_pos n xs)) xs

-- what is found passed the test
found_passes : {X : Type 0} (test : X → Bool) (v : X) (xs : List X) → find test xs ≡ Some v → test v ≡ true
found_passes test v [] e = absurd (none-some v e)
found_passes test v (x ∷ xs) e =
    elim (cases_Bool (test x)) [
      | inl t ↦ subst (λ y. test y ≡ true) (same_Some x v (sym (cond-true _ _ _ t) ∙ e)) t
      | inr f ↦ found_passes test v xs (sym (cond-false _ _ _ f) ∙ e)
    ]

-- what is voted has a majority
pub voted_has_majority : {X : Type 0} (same : X → X → Bool) (places : List (Option X)) (v : X)
    → majority_of same places ≡ Some v → IsMajority same places v
unfolding majority_of
voted_has_majority same places v e = ltb-true _ _ (found_passes (has_majority same places) v (filter_map (λ place. place) places) e)
