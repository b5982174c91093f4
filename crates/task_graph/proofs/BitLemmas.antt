-- Words as sets of numbers.
use Rattle.std.proofs.Common.{◌≡◌, ℕ, ◌^◌, ◌<◌, ◌≤◌, zero, suc, Bool, true, false, eqb, refl, sym, ◌∙◌, ap, inl, inr, arith}
use Rattle.std.specs.Prelude.{nat_lt, ◌&&◌, ◌||◌, bit_and}
use Rattle.std.specs.Int.Bits.{bit_or}
use Rattle.std.proofs.Math.Bool.{or_assoc}
use Rattle.std.specs.Int.{bit_at}
use Rattle.std.proofs.lemmas.Bool.{cases_lt, cases_eq, lt-ltb, le-ltb, eq-eqb, ne_eqb, cond-true, cond-false, and_parts, and_from, both_ways, false≢true}
use Rattle.std.proofs.lemmas.Nat.{and_le_l}
use Rattle.std.proofs.lemmas.Nat.Bits.{bit_at-pow_same, bit_at-pow_other, bit_at-lt, same_from_bits}
use Rattle.rcp_base.specs.Bits.{has_bit, WritesBit}
use Rattle.rcp_base.proofs.BitLaws.{has_bit_zero, has_bit_and, has_bit_or}
use Rattle.rcp_base.proofs.SearchLaws.{both_or_none}
use Rattle.task_graph.specs.inner.Masks.{bit_of, mask_if}

pub has_bit_if : (counts : Bool) (mask i : ℕ) → has_bit (mask_if counts mask) i ≡ (counts && has_bit mask i)
has_bit_if true mask i = refl
has_bit_if false mask i = has_bit_zero i

pub bit_of_below : (cell : ℕ) → cell < 64 → bit_of cell ≡ 2 ^ cell
bit_of_below cell below = cond-true (nat_lt cell 64) (2 ^ cell) 0 (lt-ltb cell 64 below)

pub bit_of_past : (cell : ℕ) → nat_lt cell 64 ≡ false → bit_of cell ≡ 0
bit_of_past cell past = cond-false (nat_lt cell 64) (2 ^ cell) 0 past

-- the word of one cell has that cell alone
pub has_bit_of : (cell i : ℕ) → i < 64 → has_bit (bit_of cell) i ≡ eqb i cell
has_bit_of cell i below = elim (cases_eq i cell) [
  | inl same ↦
      ap (λ (x : ℕ). has_bit (bit_of x) i) (sym same)
      ∙ ap (λ (x : ℕ). has_bit x i) (bit_of_below i below)
      ∙ ap (λ (x : ℕ). eqb x 1) (bit_at-pow_same i)
      ∙ sym (eq-eqb i cell same)
  | inr other ↦ elim (cases_lt cell 64) [
    | inl room ↦
        ap (λ (x : ℕ). has_bit x i) (bit_of_below cell room)
        ∙ ap (λ (x : ℕ). eqb x 1) (bit_at-pow_other cell i other)
        ∙ sym (ne_eqb i cell other)
    | inr past ↦
        ap (λ (x : ℕ). has_bit x i) (bit_of_past cell (le-ltb cell 64 (omega arith)))
        ∙ has_bit_zero i
        ∙ sym (ne_eqb i cell other)
  ]
]

same_bit : (x y : ℕ) → x < 2 → y < 2 → eqb x 1 ≡ eqb y 1 → x ≡ y
same_bit zero zero p q h = refl
same_bit (suc zero) (suc zero) p q h = refl
same_bit zero (suc zero) p q h = absurd (false≢true h)
same_bit (suc zero) zero p q h = absurd (false≢true (sym h))
same_bit (suc (suc x)) y p q h = absurd (omega arith)
same_bit zero (suc (suc y)) p q h = absurd (omega arith)
same_bit (suc zero) (suc (suc y)) p q h = absurd (omega arith)

-- words with the same numbers are equal
pub same_word : (a b : ℕ) → ((i : ℕ) → has_bit a i ≡ has_bit b i) → a ≡ b
same_word a b h = same_from_bits a b (λ i. same_bit (bit_at a i) (bit_at b i) (bit_at-lt a i) (bit_at-lt b i) (h i))

pub or_words : (a b c : ℕ) → bit_or (bit_or a b) c ≡ bit_or a (bit_or b c)
or_words a b c = same_word (bit_or (bit_or a b) c) (bit_or a (bit_or b c)) (λ i.
    has_bit_or (bit_or a b) c i
    ∙ ap (λ x. x || has_bit c i) (has_bit_or a b i)
    ∙ or_assoc (has_bit a i) (has_bit b i) (has_bit c i)
    ∙ sym (has_bit_or a (bit_or b c) i ∙ ap (λ x. has_bit a i || x) (has_bit_or b c i)))

-- a word without one of its numbers has no other number
pub was_there : (old new number i : ℕ) → WritesBit old new number false → has_bit new i ≡ true → has_bit old i ≡ true
was_there old new number i gone h = elim (cases_eq i number) [
  | inl same ↦ absurd (both_ways (has_bit new i) (ap (has_bit new) same ∙ gone.here) h)
  | inr other ↦ sym (gone.others i other) ∙ h
]

-- and is less
pub less_without : (old new number : ℕ) → has_bit old number ≡ true → WritesBit old new number false → new < old
less_without old new number has gone =
    let within : bit_and old new ≡ new =
    same_word (bit_and old new) new (λ i.
    has_bit_and old new i
    ∙ both_or_none (has_bit old i && has_bit new i) (has_bit new i)
    (λ h. (and_parts (has_bit old i) (has_bit new i) h).1)
    (λ h. and_from (has_bit old i) (has_bit new i) (was_there old new number i gone h) h)) in
    let most : bit_and old new ≤ old = and_le_l old new in
    let other : new ≡ old → ⊥ = λ same. both_ways (has_bit new number) gone.here (ap (λ w. has_bit w number) same ∙ has) in
    omega (arith, within, most, other)
