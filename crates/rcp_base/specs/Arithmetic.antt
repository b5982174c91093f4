-- Whole-number arithmetic, brought to the nearest number of 64 bits.
use Rattle.std.specs.Prelude.{ℤ, pos, neg_ℤ, unsigned_abs, ◌+ℤ◌, ◌-ℤ◌, ◌*ℤ◌, int_div, int_rem, if◌then◌else◌}
use Rattle.std.specs.Int.{saturate_signed, w64}
use Rattle.std.specs.Ordering.{int_eq}

-- the number of 64 bits that is nearest to a whole number
abbrev pub nearest : ℤ → ℤ
nearest z = saturate_signed w64 z

abbrev pub sum_of : ℤ → ℤ → ℤ
sum_of a b = nearest (a +ℤ b)

abbrev pub difference_of : ℤ → ℤ → ℤ
difference_of a b = nearest (a -ℤ b)

abbrev pub product_of : ℤ → ℤ → ℤ
product_of a b = nearest (a *ℤ b)

-- truncated toward zero, and 0 by 0
abbrev pub quotient_of : ℤ → ℤ → ℤ
quotient_of a b = if int_eq b (pos 0) then pos 0 else nearest (int_div a b)

-- with the sign of the left side, and 0 by 0
abbrev pub remainder_of : ℤ → ℤ → ℤ
remainder_of a b = if int_eq b (pos 0) then pos 0 else int_rem a b

abbrev pub negation_of : ℤ → ℤ
negation_of a = nearest (neg_ℤ a)

abbrev pub magnitude_of : ℤ → ℤ
magnitude_of a = nearest (pos (unsigned_abs a))
