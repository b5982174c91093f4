-- The median: the least value that is named and that half of the named values are at most. A majority's value is it.
use Rattle.std.proofs.Common.{◌≡◌, ◌≢◌, ℕ, zero, suc, ◌+◌, ◌*◌, ◌<◌, ◌≤◌, Bool, true, false, cond, List, [], ◌∷◌, length, Option, Some, None, count_by, Decides, refl, sym, subst, ap, ◌∙◌, arith, inl, inr, filter, filter_map, get_or, pos, int_le, ℤ, ◌≤ℤ◌, ◌<ℤ◌}
use Rattle.std.proofs.lemmas.Int.{ints}
use Rattle.std.specs.Prelude.{⊤, ◌⊎◌, Contains}
use Rattle.std.specs.Int.{int_min}
use Rattle.std.proofs.lemmas.Option.{none-some, same_Some}
use Rattle.std.specs.Ordering.{int_eq}
use Rattle.std.proofs.lemmas.Bool.{cases_Bool, cond-true, cond-false, le-leb, leb-true, true≢false}
use Rattle.std.proofs.lemmas.Bool.Decides.{Decides-int_eq}
use Rattle.rcp_base.specs.Majority.{names_value, IsMajority}
use Rattle.rcp_base.specs.Median.{values_named, is_half, IsHalf, IsMedian, least_with, least_of, median_of}
use Rattle.rcp_base.proofs.CountLaws.{count_by-cons, count_most, count_more, count_apart}

-- as many places name a value as named values are it
named_count : (v : ℤ) (places : List (Option ℤ)) → count_by (int_eq v) (values_named places) ≡ count_by (names_value int_eq v) places
named_count v [] = refl
named_count v (None ∷ places) = omega (arith, named_count v places, count_by-cons (names_value int_eq v) None places)
named_count v (Some x ∷ places) = omega (arith, count_by-cons (int_eq v) x (values_named places), named_count v places, count_by-cons (names_value int_eq v) (Some x) places)

few_named : (places : List (Option ℤ)) → length (values_named places) ≤ length places
few_named [] = omega arith
few_named (None ∷ places) = let r = few_named places in omega (arith, r)
few_named (Some x ∷ places) = let r = few_named places in omega (arith, r)

-- no number is less than this, if there is one
abbrev LowBound : ℤ → Option ℤ → Type 0
LowBound v None = ⊤
LowBound v (Some y) = v ≤ℤ y

low_with : (v x : ℤ) (o : Option ℤ) → v ≤ℤ x → LowBound v o → LowBound v (least_with x o)
low_with v x None h k = h
low_with v x (Some y) h k = grind (arith, ints)

low_bound : (test : ℤ → Bool) (v : ℤ) → ((w : ℤ) → test w ≡ true → v ≤ℤ w) → (xs : List ℤ) → LowBound v (least_of (filter test xs))
low_bound test v low [] = tt
low_bound test v low (x ∷ xs) = elim (cases_Bool (test x)) [
  | inl t ↦ subst (λ ys. LowBound v (least_of ys)) (sym (cond-true _ _ _ t)) (low_with v x (least_of (filter test xs)) (low x t) (low_bound test v low xs))
  | inr f ↦ subst (λ ys. LowBound v (least_of ys)) (sym (cond-false _ _ _ f)) (low_bound test v low xs)
]

with_low : (v : ℤ) (o : Option ℤ) → LowBound v o → least_with v o ≡ Some v
with_low v None h = refl
with_low v (Some y) h = ap Some (grind (arith, ints))

with_least : (v x : ℤ) → v ≤ℤ x → least_with x (Some v) ≡ Some v
with_least v x h = ap Some (grind (arith, ints))

-- the least of the values that pass is one that passes, and up to which all others are
least_is : (test : ℤ → Bool) (v : ℤ) → test v ≡ true → ((w : ℤ) → test w ≡ true → v ≤ℤ w) → (xs : List ℤ) → 0 < count_by (int_eq v) xs → least_of (filter test xs) ≡ Some v
least_is test v t low [] h = absurd (omega arith)
least_is test v t low (x ∷ xs) h = elim (cases_Bool (int_eq v x)) [
  | inl e ↦ let is : v ≡ x = (Decides-int_eq v x).0 e in
      ap least_of (cond-true (test x) _ _ (ap test (sym is) ∙ t)) ∙ ap (λ y. least_with y (least_of (filter test xs))) (sym is) ∙ with_low v (least_of (filter test xs)) (low_bound test v low xs)
  | inr e ↦ let rest : least_of (filter test xs) ≡ Some v = least_is test v t low xs (omega (arith, h, count_by-cons (int_eq v) x xs, ap {B = ℕ} (λ b. cond b 1 0) e)) in
      elim (cases_Bool (test x)) [
        | inl pass ↦ ap least_of (cond-true (test x) _ _ pass) ∙ ap (least_with x) rest ∙ with_least v x (low x pass)
        | inr f ↦ ap least_of (cond-false (test x) _ _ f) ∙ rest
      ]
]

-- a number that is that one is at most that one, and no number is both it and at most a lesser one
at_most_self : (v : ℤ) (x : ℤ) → int_eq v x ≡ true → int_le x v ≡ true
at_most_self v x e = let is : v ≡ x = (Decides-int_eq v x).0 e in grind (arith, ints)

apart_below : (v w : ℤ) → w <ℤ v → (x : ℤ) → cond (int_eq v x) 1 0 + cond (int_le x w) 1 0 ≤ 1
apart_below v w h x = elim (cases_Bool (int_eq v x)) [
  | inl e ↦ let is : v ≡ x = (Decides-int_eq v x).0 e in let f : int_le x w ≡ false = grind (arith, ints) in rw (e, f) (omega arith)
  | inr e ↦ rw e (one_at_most (int_le x w))
]
  where
    one_at_most : (b : Bool) → 0 + cond b 1 0 ≤ 1
    one_at_most true = omega arith
    one_at_most false = omega arith

-- what more than half of all places name is the median
pub majority_is_median : (places : List (Option ℤ)) (v : ℤ) → IsMajority int_eq places v → median_of places ≡ Some v
unfolding median_of
majority_is_median places v h =
    let values : List ℤ = values_named places in
    let few = few_named places in
    let as_many = named_count v places in
    least_is (is_half values) v
    (le-leb _ _ (omega (arith, h, few, as_many, count_more (int_eq v) (λ other. int_le other v) (at_most_self v) values)))
    (λ w half. elim (cases_Bool (int_le v w)) [
      | inl e ↦ grind (arith, ints)
      | inr e ↦ let less : w <ℤ v = grind (arith, ints) in absurd (omega (arith, h, few, as_many, leb-true _ _ half, count_apart (int_eq v) (λ other. int_le other w) (apart_below v w less) values))
    ])
    values (omega (arith, h, as_many))

-- a value among others
contains_first : {X : Type 0} (x : X) (xs : List X) → Contains (x ∷ xs) x
contains_first x xs = (0, omega arith, refl)

contains_later : {X : Type 0} (x : X) (xs : List X) (v : X) → Contains xs v → Contains (x ∷ xs) v
contains_later x xs v (k, below, at) = (suc k, omega arith, at)

contains_cases : {X : Type 0} (x : X) (xs : List X) (v : X) → Contains (x ∷ xs) v → (x ≡ v) ⊎ Contains xs v
contains_cases x xs v (zero, below, at) = inl at
contains_cases x xs v (suc k, below, at) = inr (k, omega arith, at)

contains_none : {X : Type 0} (v : X) → Contains {X = X} [] v → ⊥
contains_none v (k, below, at) = omega arith

-- a number of some, no greater than any of them
pub record IsLeastOf (xs : List ℤ) (v : ℤ) : Type 0 where
  pub among : Contains xs v
  pub least : (w : ℤ) → Contains xs w → v ≤ℤ w

least_with_some : (x : ℤ) (o : Option ℤ) → least_with x o ≡ None → ⊥
least_with_some x None e = none-some x (sym e)
least_with_some x (Some y) e = none-some (int_min x y) (sym e)

least_none : (xs : List ℤ) → least_of xs ≡ None → xs ≡ []
least_none [] e = refl
least_none (x ∷ xs) e = absurd (least_with_some x (least_of xs) e)

least_of_one : (x v w : ℤ) (xs : List ℤ) → xs ≡ [] → x ≡ v → Contains (x ∷ xs) w → v ≤ℤ w
least_of_one x v w xs none is at =
    elim (contains_cases x xs w at) [
      | inl e ↦ grind (arith, ints)
      | inr there ↦ absurd (contains_none w (subst (λ ys. Contains ys w) none there))
    ]

least_of_more : (x y v w : ℤ) (xs : List ℤ) → int_min x y ≡ v → IsLeastOf xs y → Contains (x ∷ xs) w → v ≤ℤ w
least_of_more x y v w xs is rest at =
    elim (contains_cases x xs w at) [ inl e ↦ grind (arith, ints) | inr there ↦ let low = rest.least w there in grind (arith, ints) ]

lesser_is_among : (x y v : ℤ) (xs : List ℤ) → int_min x y ≡ v → Contains xs y → Contains (x ∷ xs) v
lesser_is_among x y v xs is there =
    elim (cases_Bool (int_le x y)) [
      | inl e ↦ let same : x ≡ v = grind (arith, ints) in subst (λ z. Contains (x ∷ xs) z) same (contains_first x xs)
      | inr e ↦ let same : y ≡ v = grind (arith, ints) in subst (λ z. Contains (x ∷ xs) z) same (contains_later x xs y there)
    ]

-- what is told of numbers is their least
least_tells : (xs : List ℤ) (v : ℤ) → least_of xs ≡ Some v → IsLeastOf xs v
least_tells [] v e = absurd (none-some v e)
least_tells (x ∷ xs) v e = go (λ y. least_tells xs y) (least_of xs) refl e
  where
    go : ((y : ℤ) → least_of xs ≡ Some y → IsLeastOf xs y) → (o : Option ℤ) → least_of xs ≡ o → least_with x o ≡ Some v → IsLeastOf (x ∷ xs) v
    go tells None none is =
        let same : x ≡ v = same_Some x v is in
        record {
          among = subst (λ z. Contains (x ∷ xs) z) same (contains_first x xs);
          least = λ w. least_of_one x v w xs (least_none xs none) same;
        }
    go tells (Some y) some is =
        let rest = tells y some in
        let same : int_min x y ≡ v = same_Some (int_min x y) v is in
        record { among = lesser_is_among x y v xs same rest.among; least = λ w. least_of_more x y v w xs same rest }

-- what a test lets through is among the items and passes, and the other way round
record IsThrough {X : Type 0} (test : X → Bool) (xs : List X) (v : X) : Type 0 where
  among : Contains xs v
  passes : test v ≡ true

through : {X : Type 0} (test : X → Bool) (v : X) (xs : List X) → Contains (filter test xs) v → IsThrough test xs v
through test v [] at = absurd (contains_none v at)
through test v (x ∷ xs) at =
    elim (cases_Bool (test x)) [
      | inl t ↦
          elim (contains_cases x (filter test xs) v (subst (λ ys. Contains ys v) (cond-true (test x) (x ∷ filter test xs) (filter test xs) t) at)) [
            | inl e ↦ record { among = subst (λ z. Contains (x ∷ xs) z) e (contains_first x xs); passes = subst (λ z. test z ≡ true) e t }
            | inr there ↦ let rest = through test v xs there in record { among = contains_later x xs v rest.among; passes = rest.passes }
          ]
      | inr f ↦
          let rest = through test v xs (subst (λ ys. Contains ys v) (cond-false (test x) (x ∷ filter test xs) (filter test xs) f) at) in
          record { among = contains_later x xs v rest.among; passes = rest.passes }
    ]

let_through : {X : Type 0} (test : X → Bool) (v : X) (xs : List X) → Contains xs v → test v ≡ true → Contains (filter test xs) v
let_through test v [] at t = absurd (contains_none v at)
let_through test v (x ∷ xs) at t =
    elim (cases_Bool (test x)) [
      | inl pass ↦
          subst (λ ys. Contains ys v) (sym (cond-true (test x) (x ∷ filter test xs) (filter test xs) pass))
          (elim (contains_cases x xs v at) [
            | inl e ↦ subst (λ z. Contains (x ∷ filter test xs) z) e (contains_first x (filter test xs))
            | inr there ↦ contains_later x (filter test xs) v (let_through test v xs there t)
          ])
      | inr fail ↦
          subst (λ ys. Contains ys v) (sym (cond-false (test x) (x ∷ filter test xs) (filter test xs) fail))
          (elim (contains_cases x xs v at) [
            | inl e ↦ absurd (true≢false (sym (subst (λ z. test z ≡ true) (sym e) t) ∙ fail))
            | inr there ↦ let_through test v xs there t
          ])
    ]

-- what is told of places is their median
pub median_tells : (places : List (Option ℤ)) (v : ℤ) → median_of places ≡ Some v → IsMedian places v
unfolding median_of
median_tells places v e =
    let values : List ℤ = values_named places in
    let is = least_tells (filter (is_half values) values) v e in
    let own = through (is_half values) v values is.among in
    record {
      named = own.among;
      half = leb-true _ _ own.passes;
      least = λ w there half. is.least w (let_through (is_half values) w values there (le-leb _ _ half));
    }

-- a number of some, no less than any of them
record IsGreatestOf (xs : List ℤ) (v : ℤ) : Type 0 where
  among : Contains xs v
  greatest : count_by (λ other. int_le other v) xs ≡ length xs

up_to_greater : (v w : ℤ) (xs : List ℤ) → v ≤ℤ w → count_by (λ other. int_le other v) xs ≡ length xs → count_by (λ other. int_le other w) xs ≡ length xs
up_to_greater v w xs le all =
    let more = count_more (λ other. int_le other v) (λ other. int_le other w) (λ x t. grind (arith, ints)) xs in
    let most : count_by (λ other. int_le other w) xs ≤ length xs = count_most (λ other. int_le other w) xs in
    omega (arith, more, most, all)

some_greatest : (x : ℤ) (xs : List ℤ) → (v : ℤ) × IsGreatestOf (x ∷ xs) v
some_greatest x [] =
    let self : int_le x x ≡ true = grind (arith, ints) in
    (x, record { among = contains_first x []; greatest = count_by-cons (λ other. int_le other x) x [] ∙ ap (λ b. cond b 1 0 + 0) self })
some_greatest x (y ∷ xs) =
    let rest = some_greatest y xs in
    let v : ℤ = rest.0 in
    elim (cases_Bool (int_le x v)) [
      | inl e ↦ (
        v,
        record {
          among = contains_later x (y ∷ xs) v rest.1.among;
          greatest = count_by-cons (λ other. int_le other v) x (y ∷ xs) ∙ (ap (λ b. cond b 1 0 + count_by (λ other. int_le other v) (y ∷ xs)) e ∙ omega (arith, rest.1.greatest));
        },
      )
      | inr e ↦
          let self : int_le x x ≡ true = grind (arith, ints) in
          let le : v ≤ℤ x = grind (arith, ints) in (
            x,
            record {
              among = contains_first x (y ∷ xs);
              greatest = count_by-cons (λ other. int_le other x) x (y ∷ xs)
                  ∙ (ap (λ b. cond b 1 0 + count_by (λ other. int_le other x) (y ∷ xs)) self ∙ omega (arith, up_to_greater v x (y ∷ xs) le rest.1.greatest));
            },
          )
    ]

no_median : (values : List ℤ) → filter (is_half values) values ≡ [] → values ≡ []
no_median [] none = refl
no_median (x ∷ xs) none =
    let most = some_greatest x xs in
    let v : ℤ = most.0 in
    let half : is_half (x ∷ xs) v ≡ true = le-leb _ _ (omega (arith, most.1.greatest)) in
    absurd (contains_none v (subst (λ ys. Contains ys v) none (let_through (is_half (x ∷ xs)) v (x ∷ xs) most.1.among half)))

-- none is told exactly where no place names a value
pub median_none : (places : List (Option ℤ)) → median_of places ≡ None → values_named places ≡ []
unfolding median_of
median_none places e = no_median (values_named places) (least_none (filter (is_half (values_named places)) (values_named places)) e)

pub none_median : (places : List (Option ℤ)) → values_named places ≡ [] → median_of places ≡ None
unfolding median_of
none_median places e = ap (λ values. least_of (filter (is_half values) values)) e

-- places have one median
pub same_median : (places : List (Option ℤ)) (v w : ℤ) → IsMedian places v → IsMedian places w → v ≡ w
same_median places v w one other =
    let low = one.least w other.named other.half in
    let high = other.least v one.named one.half in
    grind (arith, ints)

-- and it is told
pub median_is : (places : List (Option ℤ)) (v : ℤ) → IsMedian places v → median_of places ≡ Some v
median_is places v is = go (median_of places) refl
  where
    go : (o : Option ℤ) → median_of places ≡ o → median_of places ≡ Some v
    go None none = absurd (contains_none v (subst (λ ys. Contains ys v) (median_none places none) is.named))
    go (Some w) some = some ∙ ap Some (same_median places w v (median_tells places w some) is)
