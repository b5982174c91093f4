-- Parts per million, rounded down and up, of any number and of numbers that are not negative.
use Rattle.std.proofs.Common.{◌≡◌, ◌+◌, ◌*◌, ◌/◌, ◌↔◌, ◌≤◌, ℕ, zero, suc, ℤ, pos, negsuc, neg_ℤ, ◌*ℤ◌, ◌≤ℤ◌, refl, arith, mul-le-mul_left, mul-le-mul_right}
use Rattle.std.proofs.lemmas.Int.{ints}
use Rattle.std.specs.Int.{int_div_euclid}
use Rattle.rcp_model.specs.Rounding.{parts_rounded_down, parts_rounded_up}
use Rattle.rcp_model.specs.Laws.{IsRounded}

-- the quotient by a million is the greatest number whose million times is no more
quotient_down : (y z : ℤ) → (z ≤ℤ int_div_euclid y (pos 1_000_000)) ↔ ((pos 1_000_000 *ℤ z) ≤ℤ y)
quotient_down (pos a) z = (λ h. omega (arith, ints), λ h. omega (arith, ints))
quotient_down (negsuc a) z = (λ h. omega (arith, ints), λ h. omega (arith, ints))

-- and its opposite, of the opposite number, the least whose million times is no less
quotient_up : (y z : ℤ) → (neg_ℤ (int_div_euclid (neg_ℤ y) (pos 1_000_000)) ≤ℤ z) ↔ (y ≤ℤ (pos 1_000_000 *ℤ z))
quotient_up (pos zero) z = (λ h. omega (arith, ints), λ h. omega (arith, ints))
quotient_up (pos (suc a)) z = (λ h. omega (arith, ints), λ h. omega (arith, ints))
quotient_up (negsuc a) z = (λ h. omega (arith, ints), λ h. omega (arith, ints))

-- what code computes of a number that is not negative
counted_up : (n : ℕ) → neg_ℤ (int_div_euclid (neg_ℤ (pos n)) (pos 1_000_000)) ≡ pos ((n + 999_999) / 1_000_000)
counted_up zero = refl
counted_up (suc n) = omega (arith, ints)

-- so are the parts of numbers that are not negative
pub parts_rounded_up-pos : (x ppm : ℕ) → parts_rounded_up (pos x) (pos ppm) ≡ pos ((x * ppm + 999_999) / 1_000_000)
unfolding parts_rounded_up
parts_rounded_up-pos x ppm = counted_up (x * ppm)

-- the law of both roundings
pub parts_rounded : (x ppm : ℤ) → IsRounded x ppm
unfolding parts_rounded_down parts_rounded_up
parts_rounded x ppm = record { down = quotient_down (x *ℤ ppm); up = quotient_up (x *ℤ ppm) }

-- parts of what is not negative are not negative
pub parts_rounded_up-nonnegative : (x ppm : ℤ) → pos 0 ≤ℤ x → pos 0 ≤ℤ ppm → pos 0 ≤ℤ parts_rounded_up x ppm
parts_rounded_up-nonnegative (pos a) (pos b) h k = omega (arith, ints, parts_rounded_up-pos a b)
parts_rounded_up-nonnegative (pos a) (negsuc b) h k = absurd (omega (arith, ints))
parts_rounded_up-nonnegative (negsuc a) ppm h k = absurd (omega (arith, ints))

-- of more there are no fewer
pub parts_rounded_up-rises : (x y ppm : ℤ) → pos 0 ≤ℤ x → x ≤ℤ y → pos 0 ≤ℤ ppm → parts_rounded_up x ppm ≤ℤ parts_rounded_up y ppm
parts_rounded_up-rises (pos a) (pos b) (pos c) h k l =
    let more : a * c ≤ b * c = mul-le-mul_right c (omega (arith, ints)) in
    omega (arith, ints, parts_rounded_up-pos a c, parts_rounded_up-pos b c)
parts_rounded_up-rises (pos a) (negsuc b) ppm h k l = absurd (omega (arith, ints))
parts_rounded_up-rises (pos a) (pos b) (negsuc c) h k l = absurd (omega (arith, ints))
parts_rounded_up-rises (negsuc a) y ppm h k l = absurd (omega (arith, ints))

-- at a rate of at most a million there are no more than of the whole
pub parts_rounded_up-small : (x ppm : ℤ) → pos 0 ≤ℤ x → pos 0 ≤ℤ ppm → ppm ≤ℤ pos 1_000_000 → parts_rounded_up x ppm ≤ℤ x
parts_rounded_up-small (pos a) (pos b) h k l =
    let less : a * b ≤ a * 1_000_000 = mul-le-mul_left a (omega (arith, ints)) in
    omega (arith, ints, parts_rounded_up-pos a b)
parts_rounded_up-small (pos a) (negsuc b) h k l = absurd (omega (arith, ints))
parts_rounded_up-small (negsuc a) ppm h k l = absurd (omega (arith, ints))
