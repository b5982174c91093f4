-- Tests and searches below a number.
use Rattle.std.proofs.Common.{◌≡◌, ℕ, ◌+◌, ◌<◌, ◌≤◌, zero, suc, Bool, true, false, [], ◌∷◌, ◌++◌, get_or, ltb, refl, sym, ◌∙◌, ap, subst, inl, inr, arith}
use Rattle.std.specs.Prelude.{◌||◌, ◌&&◌}
use Rattle.std.specs.List.{list_any, list_all, range_with_len}
use Rattle.std.proofs.lemmas.Bool.{or_cases, cases_eq, cases_lt, cases_Bool, false≢true, false_from_ne_true, both_ways, cond-true, cond-false, lt-ltb, le-ltb}
use Rattle.std.proofs.lemmas.List.Folds.{list_any_at, list_any-append, list_all-append}
use Rattle.std.proofs.Math.Bool.{or-false}
use Rattle.std.proofs.lemmas.List.FromFn.{get_or-range_with_len, length-range_with_len}
use Rattle.rcp_base.specs.Search.{all_below, any_below, first_below, IsFirst, lowest_below}

-- two tests, each of which holds where the other does
pub both_or_none : (a b : Bool) → (a ≡ true → b ≡ true) → (b ≡ true → a ≡ true) → a ≡ b
both_or_none true b h k = sym (h refl)
both_or_none false true h k = k refl
both_or_none false false h k = refl

-- a number that passes
pub record Found (n : ℕ) (test : ℕ → Bool) : Type 0 where
  pub v : ℕ
  pub below : v < n
  pub passes : test v ≡ true

pub any_of : (n : ℕ) (test : ℕ → Bool) (i : ℕ) → i < n → test i ≡ true → any_below n test ≡ true
any_of n test i below holds =
    let at : get_or (range_with_len 0 n) i 0 ≡ i = get_or-range_with_len 0 n i 0 below ∙ omega arith in
    list_any_at test (range_with_len 0 n) i 0 (omega (arith, length-range_with_len 0 n)) (ap test at ∙ holds)

found_from : (a n : ℕ) (test : ℕ → Bool) → list_any test (range_with_len a n) ≡ true → Found (a + n) test
found_from a zero test h = absurd (false≢true h)
found_from a (suc n) test h = elim (or_cases (test a) (list_any test (range_with_len (a + 1) n)) h) [
  | inl here ↦ record { v = a; below = omega arith; passes = here }
  | inr there ↦
      let p = found_from (a + 1) n test there in
      let b : p.v < a + 1 + n = p.below in
      record { v = p.v; below = omega (arith, b); passes = p.passes }
]

pub any_found : (n : ℕ) (test : ℕ → Bool) → any_below n test ≡ true → Found n test
any_found n test h =
    let p = found_from 0 n test h in
    let b : p.v < 0 + n = p.below in
    record { v = p.v; below = omega (arith, b); passes = p.passes }

pub any_none : (n : ℕ) (test : ℕ → Bool) → any_below n test ≡ false → (v : ℕ) → v < n → test v ≡ false
any_none n test h v l = false_from_ne_true (test v) (λ e. both_ways (any_below n test) h (any_of n test v l e))

pub none_any : (n : ℕ) (test : ℕ → Bool) → ((v : ℕ) → v < n → test v ≡ false) → any_below n test ≡ false
none_any n test h = false_from_ne_true (any_below n test) (λ e. let r = any_found n test e in both_ways (test r.v) (h r.v r.below) r.passes)

range_more : (a n : ℕ) → range_with_len a (suc n) ≡ range_with_len a n ++ (a + n) ∷ []
range_more a zero = let e : a ≡ a + 0 = omega arith in ap (λ x. x ∷ []) e
range_more a (suc n) =
    let e : a + 1 + n ≡ a + suc n = omega arith in
    ap (λ xs. a ∷ xs) (range_more (a + 1) n ∙ ap (λ x. range_with_len (a + 1) n ++ x ∷ []) e)

-- one number more
pub any_more : (n : ℕ) (test : ℕ → Bool) → any_below (suc n) test ≡ (any_below n test || test n)
any_more n test =
    let z : 0 + n ≡ n = omega arith in
    ap (list_any test) (range_more 0 n ∙ ap (λ x. range_with_len 0 n ++ x ∷ []) z)
    ∙ list_any-append test (range_with_len 0 n) (n ∷ [])
    ∙ ap (λ b. any_below n test || b) (or-false (test n))

-- tests that agree below the number
pub any_same : (n : ℕ) (one other : ℕ → Bool) → ((i : ℕ) → i < n → one i ≡ other i) → any_below n one ≡ any_below n other
any_same n one other same = both_or_none (any_below n one) (any_below n other)
    (λ h. let p = any_found n one h in any_of n other p.v p.below (sym (same p.v p.below) ∙ p.passes))
    (λ h. let p = any_found n other h in any_of n one p.v p.below (same p.v p.below ∙ p.passes))

-- a test of all numbers, with one number more
pub all_more : (n : ℕ) (test : ℕ → Bool) → all_below (suc n) test ≡ (all_below n test && test n)
all_more n test =
    let z : 0 + n ≡ n = omega arith in
    ap (list_all test) (range_more 0 n ∙ ap (λ x. range_with_len 0 n ++ x ∷ []) z)
    ∙ list_all-append test (range_with_len 0 n) (n ∷ [])
    ∙ ap (λ b. all_below n test && b) (with_true (test n))
  where
    with_true : (b : Bool) → (b && true) ≡ b
    with_true true = refl
    with_true false = refl

pub all_same : (n : ℕ) (one other : ℕ → Bool) → ((i : ℕ) → i < n → one i ≡ other i) → all_below n one ≡ all_below n other
all_same zero one other same = refl
all_same (suc n) one other same =
    all_more n one
    ∙ ap (λ b. b && one n) (all_same n one other (λ i l. same i (omega arith)))
    ∙ ap (λ b. all_below n other && b) (same n (omega arith))
    ∙ sym (all_more n other)

pub all_pass : (n : ℕ) (test : ℕ → Bool) → ((i : ℕ) → i < n → test i ≡ true) → all_below n test ≡ true
all_pass zero test each = refl
all_pass (suc n) test each =
    all_more n test
    ∙ ap (λ b. b && test n) (all_pass n test (λ i l. each i (omega arith)))
    ∙ each n (omega arith)

pub first_is : (n : ℕ) (test : ℕ → Bool) → any_below n test ≡ true → IsFirst n test (first_below n test)
first_is zero test h = absurd (false≢true h)
first_is (suc n) test h =
    elim (cases_Bool (any_below n test)) [
      | inl some ↦ let r = first_is n test some in
          let low : first_below n test < n = r.below in
          subst (IsFirst (suc n) test) (sym (cond-true (any_below n test) _ _ some)) (record { below = omega (arith, low); passes = r.passes; none = r.none })
      | inr none ↦
          elim (or_cases (any_below n test) (test n) (sym (any_more n test) ∙ h)) [
            | inl there ↦ absurd (both_ways (any_below n test) none there)
            | inr here ↦ subst (IsFirst (suc n) test) (sym (cond-false (any_below n test) _ _ none)) (record { below = omega arith; passes = here; none = any_none n test none })
          ]
    ]

-- there is one first number that passes
pub first_is_one : (n : ℕ) (test : ℕ → Bool) (v : ℕ) → IsFirst n test v → v ≡ first_below n test
first_is_one n test v r =
    let f = first_is n test (any_of n test v r.below r.passes) in
    elim (cases_lt v (first_below n test)) [
      | inl a ↦ absurd (both_ways (test v) (f.none v a) r.passes)
      | inr a ↦ elim (cases_lt (first_below n test) v) [
        | inl b ↦ absurd (both_ways (test (first_below n test)) (r.none (first_below n test) b) f.passes)
        | inr b ↦ omega arith
      ]
    ]

-- a place below n at which f is least
pub record IsLowest (n : ℕ) (f : ℕ → ℕ) (at : ℕ) : Type 0 where
  pub below : at < n
  pub least : (i : ℕ) → i < n → f at ≤ f i

pub lowest_is : (n : ℕ) (f : ℕ → ℕ) → 0 < n → IsLowest n f (lowest_below n f)
lowest_is zero f h = absurd (omega arith)
lowest_is (suc zero) f h =
    let P : ℕ → Type 0 = IsLowest 1 f in
    subst P (sym (cond-false (ltb (f 0) (f 0)) 0 0 (le-ltb (f 0) (f 0) (omega arith))))
    (record { below = omega arith; least = λ i l. let e : i ≡ 0 = omega arith in subst (λ (x : ℕ). f 0 ≤ f x) (sym e) (omega arith) })
lowest_is (suc (suc n)) f h =
    let r = lowest_is (suc n) f (omega arith) in
    let low : ℕ = lowest_below (suc n) f in
    let within : lowest_below (suc n) f < suc n = r.below in
    let P : ℕ → Type 0 = IsLowest (suc (suc n)) f in
    elim (cases_lt (f (suc n)) (f (lowest_below (suc n) f))) [
      | inl a ↦ subst P (sym (cond-true (ltb (f (suc n)) (f low)) (suc n) low (lt-ltb _ _ a))) (record {
        below = omega arith;
        least = λ i l.
            elim (cases_eq i (suc n)) [ inl e ↦ subst (λ (x : ℕ). f (suc n) ≤ f x) (sym e) (omega arith) | inr ne ↦ let b = r.least i (omega arith) in omega arith ];
      })
      | inr a ↦ subst P (sym (cond-false (ltb (f (suc n)) (f low)) (suc n) low (le-ltb _ _ a))) (record {
        below = omega (arith, within);
        least = λ i l.
            elim (cases_eq i (suc n)) [ inl e ↦ subst (λ (x : ℕ). f low ≤ f x) (sym e) a | inr ne ↦ r.least i (omega arith) ];
      })
    ]
