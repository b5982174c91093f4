-- Numbers of a timing come back from 64 bits as they were, and so do their sums and products.
use Rattle.std.proofs.Common.{◌≡◌, ◌↔◌, IsTrue, int_le, ◌+◌, ◌*◌, ◌/◌, ◌≤◌, ℕ, suc, ℤ, pos, negsuc, ◌+ℤ◌, ◌*ℤ◌, ◌≤ℤ◌, int_div, FitsSigned, to_z, of_z, w64, refl, ap, arith, mul-le-mul}
use Rattle.std.proofs.lemmas.Int.{ints, to_z_pos, to_z-of_z}
use Rattle.std.specs.Int.{int_div_euclid}
use Rattle.rcp_model.specs.FrameLimits.{IsWithin}
use Rattle.rcp_model.specs.Rounding.{parts_rounded_down, parts_rounded_up}
use Rattle.rcp_model.specs.TimingRules.{IsTimingNumber}
use Rattle.rcp_model.proofs.RoundingLaws.{parts_rounded_up-pos}
use Rattle.clock_model.specs.Ranges.{IsSpan, IsDrift, IsRate, IsStretch}

-- what the code computes of a number and a rate
abbrev pub computed_up : ℤ → ℤ → ℤ
computed_up x ppm = to_z w64 (of_z w64 (int_div (to_z w64 (of_z w64 (to_z w64 (of_z w64 (to_z w64 (of_z w64 x) *ℤ to_z w64 (of_z w64 ppm))) +ℤ pos 999_999))) (pos 1_000_000)))

-- is the rounded value, within its range
pub record IsComputed (x ppm : ℤ) : Type 0 where
  pub value : computed_up x ppm ≡ parts_rounded_up x ppm
  pub range : IsDrift (computed_up x ppm)

-- so it is for each span and rate
pub computed : (x ppm : ℤ) → IsSpan x → IsTimingNumber ppm → IsComputed x ppm
computed (pos a) (pos b) span rate =
    let small : a ≤ 3_000_000_000 = omega (arith, ints) in
    let slow : b ≤ 1_000_000_000 = omega (arith, ints) in
    let product : a * b ≤ 3_000_000_000 * 1_000_000_000 = mul-le-mul small slow in
    let whole : computed_up (pos a) (pos b) ≡ pos ((a * b + 999_999) / 1_000_000) = rw (to_z_pos w64 a (omega arith), to_z_pos w64 b (omega arith)) (omega (arith, ints)) in
    record { value = omega (arith, ints, whole, parts_rounded_up-pos a b); range = (omega (arith, ints, whole), omega (arith, ints, whole)) }
computed (pos a) (negsuc b) span rate = absurd (omega (arith, ints))
computed (negsuc a) ppm span rate = absurd (omega (arith, ints))

-- a number comes back
pub back : (a : ℤ) → IsTimingNumber a → to_z w64 (of_z w64 a) ≡ a
back a h = omega (arith, ints)

-- and so does a sum
pub back_sum : (a b : ℤ) → IsTimingNumber a → IsTimingNumber b → to_z w64 (of_z w64 (to_z w64 (of_z w64 a) +ℤ to_z w64 (of_z w64 b))) ≡ a +ℤ b
back_sum a b h k = omega (arith, ints)

-- of three numbers
pub back_sums : (a b c : ℤ) → IsTimingNumber a → IsTimingNumber b → IsTimingNumber c → to_z w64 (of_z w64 (to_z w64 (of_z w64 (to_z w64 (of_z w64 a) +ℤ to_z w64 (of_z w64 b))) +ℤ to_z w64 (of_z w64 c))) ≡ a +ℤ b +ℤ c
back_sums a b c h k l = omega (arith, ints)

-- and twice a drift
pub back_twice : (a : ℤ) → IsDrift a → to_z w64 (of_z w64 (pos 2 *ℤ to_z w64 (of_z w64 a))) ≡ pos 2 *ℤ a
back_twice a h = omega (arith, ints)

-- a test of what the code computed says the same of the exact numbers
pub test_says : {a b x y : ℤ} → a ≡ x → b ≡ y → IsTrue (int_le a b) ↔ (x ≤ℤ y)
test_says e f = grind (arith, ints)

-- the quotient by a million of what is within so many million is within as many
quotient_within : (n : ℕ) (y : ℤ) → IsWithin (pos (n * 1_000_000)) y → IsWithin (pos n) (int_div_euclid y (pos 1_000_000))
quotient_within n (pos a) h = (omega (arith, ints), omega (arith, ints))
quotient_within n (negsuc a) h = (omega (arith, ints), omega (arith, ints))

-- a product is within the product of two bounds
product_within : (a m n : ℕ) (y : ℤ) → a ≤ m → IsWithin (pos n) y → IsWithin (pos (m * n)) (pos a *ℤ y)
product_within a m n (pos b) h k =
    let product : a * b ≤ m * n = mul-le-mul h (omega (arith, ints)) in
    (omega (arith, ints), omega (arith, ints))
product_within a m n (negsuc b) h k =
    let product : a * suc b ≤ m * n = mul-le-mul h (omega (arith, ints)) in
    (omega (arith, ints), omega (arith, ints))

-- what the code computes of two numbers
abbrev pub computed_product : ℤ → ℤ → ℤ
computed_product a b = to_z w64 (of_z w64 a) *ℤ to_z w64 (of_z w64 b)

-- is their product
pub product_back : {a b x y : ℤ} → FitsSigned w64 a → FitsSigned w64 b → a ≡ x → b ≡ y → computed_product a b ≡ x *ℤ y
product_back {a} {b} f g e h = rw (to_z-of_z w64 a f, to_z-of_z w64 b g, e, h)

-- the product of a span and a rate fits, so what the code computes of it is its parts rounded down
pub rounded_down_back : (x ppm : ℤ) → IsSpan x → IsRate ppm → int_div_euclid (to_z w64 (of_z w64 (computed_product x ppm))) (pos 1_000_000) ≡ parts_rounded_down x ppm
unfolding parts_rounded_down
rounded_down_back (pos a) ppm span rate =
    let product : computed_product (pos a) ppm ≡ pos a *ℤ ppm = product_back {a = pos a} {b = ppm} (omega (arith, ints)) (omega (arith, ints)) refl refl in
    let small = product_within a 3_000_000_000 1_000_000_000 ppm (omega (arith, ints)) rate in
    ap (λ (y : ℤ). int_div_euclid y (pos 1_000_000)) (omega (arith, ints))
rounded_down_back (negsuc a) ppm span rate = absurd (omega (arith, ints))

-- the parts are within their range
pub rounded_down-range : (x ppm : ℤ) → IsSpan x → IsRate ppm → IsStretch (parts_rounded_down x ppm)
unfolding parts_rounded_down
rounded_down-range (pos a) ppm span rate =
    quotient_within 3_000_000_000_000 (pos a *ℤ ppm) (product_within a 3_000_000_000 1_000_000_000 ppm (omega (arith, ints)) rate)
rounded_down-range (negsuc a) ppm span rate = absurd (omega (arith, ints))

-- and at a rate within a million they are within the whole
pub rounded_down-small : (x ppm : ℤ) → pos 0 ≤ℤ x → IsWithin (pos 1_000_000) ppm → IsWithin x (parts_rounded_down x ppm)
unfolding parts_rounded_down
rounded_down-small (pos a) ppm h rate =
    quotient_within a (pos a *ℤ ppm) (product_within a a 1_000_000 ppm (omega (arith, ints)) rate)
rounded_down-small (negsuc a) ppm h rate = absurd (omega (arith, ints))
