-- Remainders of numbers that follow each other.
use Rattle.std.proofs.Common.{◌≡◌, ◌≢◌, ◌⊎◌, ℕ, suc, ◌%◌, ◌<◌, ◌≤◌, ap, ◌∙◌, inl, inr, arith}
use Rattle.std.proofs.Math.Nat.{mod-lt, mod-eq_of_lt, mod_self, suc-mod}
use Rattle.std.proofs.lemmas.Bool.{cases_lt}

-- the next number has the next remainder, or 0 after the last one
pub mod_next : (n m : ℕ) → 0 < m → (suc n % m ≡ suc (n % m)) ⊎ ((suc n % m ≡ 0) × (suc (n % m) ≡ m))
mod_next n m some = elim (cases_lt (suc (n % m)) m) [
  | inl within ↦ inl (suc-mod n m ∙ mod-eq_of_lt within)
  | inr past ↦
      let last : suc (n % m) ≡ m = omega (arith, past, mod-lt n some) in
      inr (suc-mod n m ∙ ap (λ k. k % m) last ∙ mod_self m, last)
]

-- it is another one
pub next_differs : (n m : ℕ) → 2 ≤ m → suc n % m ≢ n % m
next_differs n m some same = elim (mod_next n m (omega (arith, some))) [
  | inl next ↦ omega (arith, next, same)
  | inr first ↦ omega (arith, first.0, first.1, same, some)
]
