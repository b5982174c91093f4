-- Words as sets of small numbers: a test of one number, one number more or less, the first, and those of two words.
use Rattle.std.proofs.Common.{max, min, ◌≡◌, ℕ, ◌*◌, ◌%◌, ◌^◌, ◌<◌, ◌≤◌, ◌-◌, zero, suc, Bool, true, false, not, eqb, ltb, refl, sym, ◌∙◌, ap, inl, inr, arith, zero-mul, w64}
use Rattle.std.specs.Prelude.{bit_and, ◌||◌, ◌&&◌}
use Rattle.std.specs.Int.{bit_at, bit_not, trailing_zeros}
use Rattle.std.specs.Int.Bits.{bit_or}
use Rattle.std.proofs.lemmas.Bool.{cases_lt, lt-ltb, le-ltb, eq-eqb, ne_eqb}
use Rattle.std.proofs.Math.Bool.{and_comm, and-false}
use Rattle.std.proofs.lemmas.Nat.{one_shl, pow_pos}
use Rattle.std.proofs.lemmas.Nat.Bits.{and_pow, bit_at_and, bit_at_or, bit_at_not, bit_at-lt, bit_at-zero, bit_at_above, bit_at_set_same, bit_at_set_other, bit_at_clear_same, bit_at_clear_other, bit_at_mask_inside, bit_at_mask_above, bit_at-trailing_zeros}
use Rattle.rcp_base.specs.Bits.{has_bit, WritesBit, AreBelow, AreOthers}
use Rattle.rcp_base.specs.Search.{IsFirst}

bit_test : (b p : ℕ) → b < 2 → 0 < p → not (eqb (b * p) 0) ≡ eqb b 1
bit_test zero p h pos = ap (λ (x : ℕ). not (eqb x 0)) (zero-mul p)
bit_test (suc zero) p h pos =
    let e : 1 * p ≡ p = omega arith in
    let ne : p ≡ 0 → ⊥ = λ z. omega arith in
    ap (λ (x : ℕ). not (eqb x 0)) e ∙ ap not (ne_eqb p 0 ne)
bit_test (suc (suc b)) p h pos = absurd (omega arith)

-- the test of one number
pub and_one_bit : (w i : ℕ) → i < 64 → not (eqb (bit_and w (1 * 2 ^ i % 2 ^ 64)) 0) ≡ has_bit w i
and_one_bit w i h =
    let one : 1 * 2 ^ i % 2 ^ 64 ≡ 2 ^ i = one_shl i 64 h in
    let pos = pow_pos i in
    ap (λ (x : ℕ). not (eqb (bit_and w x) 0)) one ∙ ap (λ (x : ℕ). not (eqb x 0)) (and_pow w i)
    ∙ bit_test (bit_at w i) (2 ^ i) (bit_at-lt w i) pos

-- a number put in
pub puts_in : (w i : ℕ) → i < 64 → WritesBit w (bit_or w (1 * 2 ^ i % 2 ^ 64)) i true
puts_in w i h = record {
  here = eq-eqb _ _ (bit_at_set_same w64 w i h);
  others = λ j ne. ap (λ (x : ℕ). eqb x 1) (bit_at_set_other w64 w i h j ne);
}

-- a number past the last is in no part of the word
past_and : (w m i : ℕ) → w < 2 ^ 64 → 64 ≤ i → bit_at (bit_and w m) i ≡ bit_at w i
past_and w m i fits past =
    let none : bit_at w i ≡ 0 = bit_at_above w 64 i fits past in
    let both : bit_at (bit_and w m) i ≡ min (bit_at w i) (bit_at m i) = bit_at_and w m i in
    omega arith

-- a number taken out
pub takes_out : (w i : ℕ) → w < 2 ^ 64 → i < 64 → WritesBit w (bit_and w (bit_not w64 (1 * 2 ^ i % 2 ^ 64))) i false
takes_out w i fits h = record {
  here = ap (λ (x : ℕ). eqb x 1) (bit_at_clear_same w64 w i h);
  others = λ j ne. elim (cases_lt j 64) [
    | inl a ↦ ap (λ (x : ℕ). eqb x 1) (bit_at_clear_other w64 w i h j a ne)
    | inr a ↦ ap (λ (x : ℕ). eqb x 1) (past_and w _ j fits a)
  ];
}

pub first_of_word : (w : ℕ) → 0 < w → w < 2 ^ 64 → IsFirst 64 (has_bit w) (trailing_zeros w64 w)
first_of_word w some fits =
    let t = bit_at-trailing_zeros w64 w some fits in
    record { below = t.0; passes = eq-eqb _ _ t.1; none = λ i l. ap (λ (x : ℕ). eqb x 1) (t.2 i l) }

-- the numbers below another
mask_below : (n : ℕ) → AreBelow (2 ^ n - 1) n
mask_below n i = elim (cases_lt i n) [
  | inl a ↦ eq-eqb _ _ (bit_at_mask_inside 0 n i (omega arith) a) ∙ sym (lt-ltb i n a)
  | inr a ↦ ap (λ (x : ℕ). eqb x 1) (bit_at_mask_above 0 n i a) ∙ sym (le-ltb i n a)
]

pub all_below_word : (n : ℕ) → n ≡ 64 → AreBelow 18_446_744_073_709_551_615 n
all_below_word n e i = mask_below 64 i ∙ ap (λ (x : ℕ). ltb i x) (sym e)

pub below_word : (n : ℕ) → n < 64 → AreBelow (1 * 2 ^ n % 2 ^ 64 - 1) n
below_word n h i = ap (λ (x : ℕ). has_bit (x - 1) i) (one_shl n 64 h) ∙ mask_below n i

pub has_bit_zero : (i : ℕ) → has_bit 0 i ≡ false
has_bit_zero i = ap (λ (x : ℕ). eqb x 1) (bit_at-zero i)

pub no_bit_above : (w i : ℕ) → w < 2 ^ 64 → 64 ≤ i → has_bit w i ≡ false
no_bit_above w i fits past = ap (λ (x : ℕ). eqb x 1) (bit_at_above w 64 i fits past)

min_bit : (x y : ℕ) → x < 2 → y < 2 → eqb (min x y) 1 ≡ (eqb x 1 && eqb y 1)
min_bit zero zero p q = refl
min_bit zero (suc zero) p q = refl
min_bit (suc zero) zero p q = refl
min_bit (suc zero) (suc zero) p q = refl
min_bit (suc (suc x)) y p q = absurd (omega arith)
min_bit zero (suc (suc y)) p q = absurd (omega arith)
min_bit (suc zero) (suc (suc y)) p q = absurd (omega arith)

pub has_bit_and : (a b i : ℕ) → has_bit (bit_and a b) i ≡ (has_bit a i && has_bit b i)
has_bit_and a b i = ap (λ (x : ℕ). eqb x 1) (bit_at_and a b i) ∙ min_bit (bit_at a i) (bit_at b i) (bit_at-lt a i) (bit_at-lt b i)

not_bit : (x y : ℕ) → x < 2 → y ≡ 1 - x → eqb y 1 ≡ not (eqb x 1)
not_bit zero y p e = eq-eqb y 1 e
not_bit (suc zero) y p e = let ne : y ≡ 1 → ⊥ = λ q. omega arith in ne_eqb y 1 ne
not_bit (suc (suc x)) y p e = absurd (omega arith)

has_bit_not : (w i : ℕ) → w < 2 ^ 64 → i < 64 → has_bit (bit_not w64 w) i ≡ not (has_bit w i)
has_bit_not w i fits h = not_bit (bit_at w i) (bit_at (bit_not w64 w) i) (bit_at-lt w i) (bit_at_not w64 w i fits h)

max_bit : (x y : ℕ) → x < 2 → y < 2 → eqb (max x y) 1 ≡ (eqb x 1 || eqb y 1)
max_bit zero zero p q = refl
max_bit zero (suc zero) p q = refl
max_bit (suc zero) zero p q = refl
max_bit (suc zero) (suc zero) p q = refl
max_bit (suc (suc x)) y p q = absurd (omega arith)
max_bit zero (suc (suc y)) p q = absurd (omega arith)
max_bit (suc zero) (suc (suc y)) p q = absurd (omega arith)

pub has_bit_or : (a b i : ℕ) → has_bit (bit_or a b) i ≡ (has_bit a i || has_bit b i)
has_bit_or a b i = ap (λ (x : ℕ). eqb x 1) (bit_at_or a b i) ∙ max_bit (bit_at a i) (bit_at b i) (bit_at-lt a i) (bit_at-lt b i)

-- the numbers below that are not in a word
pub others_below : (w mask n : ℕ) → w < 2 ^ 64 → n ≤ 64 → AreBelow mask n → AreOthers w (bit_and (bit_not w64 w) mask) n
others_below w mask n fits few below i =
    let both : has_bit (bit_and (bit_not w64 w) mask) i ≡ (has_bit (bit_not w64 w) i && ltb i n) =
    has_bit_and (bit_not w64 w) mask i ∙ ap (λ (b : Bool). has_bit (bit_not w64 w) i && b) (below i) in
    elim (cases_lt i n) [
      | inl inside ↦
          both ∙ and_comm (has_bit (bit_not w64 w) i) (ltb i n)
          ∙ ap (λ (b : Bool). ltb i n && b) (has_bit_not w i fits (omega arith))
      | inr past ↦
          let none : ltb i n ≡ false = le-ltb i n past in
          both ∙ ap (λ (b : Bool). has_bit (bit_not w64 w) i && b) none ∙ and-false (has_bit (bit_not w64 w) i)
          ∙ sym (ap (λ (b : Bool). b && not (has_bit w i)) none)
    ]
