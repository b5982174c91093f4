-- Parts per million of a number, rounded to a whole number. This project's own.
use Rattle.std.specs.Prelude.{ℤ, pos, neg_ℤ, ◌*ℤ◌}
use Rattle.std.specs.Int.{int_div_euclid}

-- so many parts per million of a number, rounded toward minus infinity
unfoldable pub parts_rounded_down : ℤ → ℤ → ℤ
parts_rounded_down x ppm = int_div_euclid (x *ℤ ppm) (pos 1_000_000)

-- the same, rounded toward plus infinity
unfoldable pub parts_rounded_up : ℤ → ℤ → ℤ
parts_rounded_up x ppm = neg_ℤ (int_div_euclid (neg_ℤ (x *ℤ ppm)) (pos 1_000_000))
