-- How many numbers a word has.
use Rattle.std.proofs.Common.{◌≡◌, ℕ, zero, suc, ◌+◌, ◌-◌, ◌^◌, ◌<◌, ◌≤◌, Bool, false, cond, eqb, List, [], ◌∷◌, ◌++◌, length, map, inl, inr, refl, sym, ◌∙◌, ap, arith, add-one, add-zero}
use Rattle.std.proofs.lemmas.Bool.{cases_lt}
use Rattle.std.proofs.lemmas.List.{map-id, get_or_past}
use Rattle.std.proofs.lemmas.List.FromFn.{length-range_with_len, length-map-range_with_len, get_or-map-range_with_len, map-range_with_len_more}
use Rattle.std.proofs.lemmas.List.Sums.{sum_by_push, count_by-le-length}
use Rattle.std.proofs.lemmas.Nat.Bits.{bit_at-lt, bit_at_above, same_from_bits}
use Rattle.std.proofs.lemmas.Simd.{bit_mask_l, ones-mask_l}
use lib.Lanes.{mask_l}
use Rattle.std.specs.Prelude.{count_ones}
use Rattle.std.specs.Int.{bit_at}
use Rattle.std.specs.List.{range_with_len, sum_by, count_by}
use Rattle.rcp_base.specs.Bits.{has_bit}
use Rattle.vote_pattern.specs.inner.Numbers.{number_count}

range_more : (n : ℕ) → range_with_len 0 (n + 1) ≡ range_with_len 0 n ++ n ∷ []
range_more n = sym (map-id _) ∙ map-range_with_len_more (λ (x : ℕ). x) 0 n n (omega arith) ∙ ap (λ (xs : List ℕ). xs ++ n ∷ []) (map-id _)

-- a sum over one number more
pub sum_more : (f : ℕ → ℕ) (n : ℕ) → sum_by f (range_with_len 0 (n + 1)) ≡ sum_by f (range_with_len 0 n) + f n
sum_more f n = ap (sum_by f) (range_more n) ∙ sum_by_push f (range_with_len 0 n) n

pub sum_suc : (f : ℕ → ℕ) (n : ℕ) → sum_by f (range_with_len 0 (suc n)) ≡ sum_by f (range_with_len 0 n) + f n
sum_suc f n = ap (λ (k : ℕ). sum_by f (range_with_len 0 k)) (sym (add-one n)) ∙ sum_more f n

-- sums of the same numbers
pub same_sums : (f g : ℕ → ℕ) (n : ℕ) → ((i : ℕ) → i < n → f i ≡ g i) → sum_by f (range_with_len 0 n) ≡ sum_by g (range_with_len 0 n)
same_sums f g zero same = refl
same_sums f g (suc n) same =
    sum_suc f n ∙ ap (λ (x : ℕ). x + f n) (same_sums f g n (λ i h. same i (omega arith)))
    ∙ ap (λ (x : ℕ). sum_by g (range_with_len 0 n) + x) (same n (omega arith)) ∙ sym (sum_suc g n)

count_to : (p : ℕ → Bool) (n m : ℕ) → n ≡ m → count_by p (range_with_len 0 n) ≡ count_by p (range_with_len 0 m)
count_to p n m e = ap (λ (k : ℕ). count_by p (range_with_len 0 k)) e

-- numbers that don't pass add nothing to a count
none_more : (p : ℕ → Bool) (n k : ℕ) → ((i : ℕ) → n ≤ i → p i ≡ false) → count_by p (range_with_len 0 (n + k)) ≡ count_by p (range_with_len 0 n)
none_more p n zero none = count_to p (n + zero) n (omega arith)
none_more p n (suc k) none =
    let next : n + suc k ≡ n + k + 1 = omega arith in
    let past : n ≤ n + k = omega arith in
    let here = ap (λ (b : Bool). cond {A = ℕ} b 1 0) (none (n + k) past) in
    let more : count_by p (range_with_len 0 (n + k + 1)) ≡ count_by p (range_with_len 0 (n + k)) + cond (p (n + k)) 1 0
    = sum_more (λ i. cond (p i) 1 0) (n + k) in
    count_to p (n + suc k) (n + k + 1) next ∙ more
    ∙ ap (λ (x : ℕ). count_by p (range_with_len 0 (n + k)) + x) here ∙ add-zero _ ∙ none_more p n k none

pub none_past : (p : ℕ → Bool) (n m : ℕ) → n ≤ m → ((i : ℕ) → n ≤ i → p i ≡ false) → count_by p (range_with_len 0 m) ≡ count_by p (range_with_len 0 n)
none_past p n m h none = count_to p m (n + (m - n)) (omega arith) ∙ none_more p n (m - n) none

-- a word is the mask of its bits
one_of_bit : (b : ℕ) → b < 2 → cond (eqb b 1) 1 0 ≡ b
one_of_bit zero h = refl
one_of_bit (suc zero) h = refl
one_of_bit (suc (suc b)) h = absurd (omega arith)

word_is_mask : (n w : ℕ) → w < 2 ^ n → w ≡ mask_l (map (has_bit w) (range_with_len 0 n))
word_is_mask n w fits = same_from_bits _ _ (λ i.
    let bits = map (has_bit w) (range_with_len 0 n) in
    let long : length bits ≡ n = length-map-range_with_len (has_bit w) 0 n in
    sym (bit_mask_l bits i ∙ elim (cases_lt i n) [
      | inl a ↦ ap (λ (b : Bool). cond b 1 0) (get_or-map-range_with_len (has_bit w) 0 n i i false a (omega arith)) ∙ one_of_bit (bit_at w i) (bit_at-lt w i)
      | inr a ↦ ap (λ (b : Bool). cond b 1 0) (get_or_past bits i false (omega arith)) ∙ sym (bit_at_above w n i fits a)
    ]))

ones_are : (n w : ℕ) → w < 2 ^ n → count_ones w ≡ count_by (has_bit w) (range_with_len 0 n)
ones_are n w fits = ap count_ones (word_is_mask n w fits) ∙ ones-mask_l (has_bit w) (range_with_len 0 n)

-- the ones of a word are its numbers
pub ones_are_numbers : (w : ℕ) → w < 2 ^ 64 → count_ones w ≡ number_count w
unfolding number_count
ones_are_numbers w fits = ones_are 64 w fits

few_below : (n w : ℕ) → count_by (has_bit w) (range_with_len 0 n) ≤ n
few_below n w =
    let few = count_by-le-length (has_bit w) (range_with_len 0 n) in
    let long = length-range_with_len 0 n in
    omega arith

pub few_numbers : (w : ℕ) → number_count w ≤ 64
unfolding number_count
few_numbers w = few_below 64 w
