-- The pigeonhole principle.
use Rattle.std.proofs.Common.{◌≡◌, ℕ, ◌<◌, ◌≤◌, zero, suc, cond, eqb, inl, inr, sym, ◌∙◌, subst, arith}
use Rattle.std.proofs.lemmas.Bool.{cases_eq, cases_Bool, eqb-true, eqb-false, eq-eqb, ne_eqb, cond-true, cond-false}
use Rattle.rcp_base.specs.Search.{any_below}
use Rattle.rcp_base.proofs.SearchLaws.{any_found, any_none}

-- two places up to n at which f is the same
pub record Clash (n : ℕ) (f : ℕ → ℕ) : Type 0 where
  pub i : ℕ
  pub j : ℕ
  pub apart : i < j
  pub within : j ≤ n
  pub same : f i ≡ f j

-- f without the value n, at whose place stands the value at n + 1
abbrev moved : ℕ → (ℕ → ℕ) → ℕ → ℕ
moved n f i = cond (eqb (f i) n) (f (suc n)) (f i)

moved_clash : (n : ℕ) (f : ℕ → ℕ) → ((i : ℕ) → i ≤ n → f i ≡ f (suc n) → ⊥) → Clash n (moved n f) → Clash (suc n) f
moved_clash n f fresh k =
    let le_i : k.i ≤ n = omega (arith, k.apart, k.within) in
    elim (cases_eq (f k.i) n) [
      | inl a ↦ elim (cases_eq (f k.j) n) [
        | inl b ↦ record { i = k.i; j = k.j; apart = k.apart; within = omega (arith, k.within); same = a ∙ sym b }
        | inr b ↦ absurd (fresh k.j k.within (sym (sym (cond-true (eqb (f k.i) n) _ _ (eq-eqb _ _ a)) ∙ k.same ∙ cond-false (eqb (f k.j) n) _ _ (ne_eqb _ _ b))))
      ]
      | inr a ↦ elim (cases_eq (f k.j) n) [
        | inl b ↦ absurd (fresh k.i le_i (sym (cond-false (eqb (f k.i) n) _ _ (ne_eqb _ _ a)) ∙ k.same ∙ cond-true (eqb (f k.j) n) _ _ (eq-eqb _ _ b)))
        | inr b ↦ record { i = k.i; j = k.j; apart = k.apart; within = omega (arith, k.within); same = sym (cond-false (eqb (f k.i) n) _ _ (ne_eqb _ _ a)) ∙ k.same ∙ cond-false (eqb (f k.j) n) _ _ (ne_eqb _ _ b) }
      ]
    ]

moved_below : (n : ℕ) (f : ℕ → ℕ) → ((i : ℕ) → i ≤ suc n → f i < suc n) → ((i : ℕ) → i ≤ n → f i ≡ f (suc n) → ⊥) → (i : ℕ) → i ≤ n → moved n f i < n
moved_below n f low fresh i h =
    let at_i : f i < suc n = low i (omega arith) in
    let at_end : f (suc n) < suc n = low (suc n) (omega arith) in
    let P : ℕ → Type 0 = λ x. x < n in
    elim (cases_eq (f i) n) [
      | inl a ↦ let ne : f (suc n) ≡ n → ⊥ = λ e. fresh i h (a ∙ sym e) in
          subst P (sym (cond-true (eqb (f i) n) _ _ (eq-eqb _ _ a))) (omega arith)
      | inr a ↦ subst P (sym (cond-false (eqb (f i) n) _ _ (ne_eqb _ _ a))) (omega arith)
    ]

-- n + 1 places with values below n have a clash
pub pigeonhole : (n : ℕ) (f : ℕ → ℕ) → ((i : ℕ) → i ≤ n → f i < n) → Clash n f
pigeonhole zero f low = let bad : f 0 < 0 = low 0 (omega arith) in absurd (omega arith)
pigeonhole (suc n) f low =
    elim (cases_Bool (any_below (suc n) (λ i. eqb (f i) (f (suc n))))) [
      | inl some ↦ let r = any_found (suc n) (λ i. eqb (f i) (f (suc n))) some in
          record { i = r.v; j = suc n; apart = r.below; within = omega arith; same = eqb-true _ _ r.passes }
      | inr none ↦
          let fresh : (i : ℕ) → i ≤ n → f i ≡ f (suc n) → ⊥ = λ i h. eqb-false _ _ (any_none (suc n) (λ i. eqb (f i) (f (suc n))) none i (omega arith)) in
          moved_clash n f fresh (pigeonhole n (moved n f) (moved_below n f low fresh))
    ]
