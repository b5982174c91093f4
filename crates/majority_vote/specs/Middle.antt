-- How the median is found, place by place. No promise to a user cites it. This project's own.
use Rattle.std.specs.Prelude.{ℤ, int_le, Bool, false, List, Option, Some, None, if◌then◌else◌}
use Rattle.std.specs.Int.{int_min}
use Rattle.rcp_base.specs.Median.{is_half}

-- the lesser of a number and another, where there is another
abbrev pub lesser : ℤ → Option ℤ → ℤ
lesser value None = value
lesser value (Some other) = int_min value other

-- the least so far with one value more, where half of the values are at most that
abbrev pub with_value : List ℤ → ℤ → Option ℤ → Option ℤ
with_value values value least = if is_half values value then Some (lesser value least) else least

-- the same with the value of one place more
abbrev pub with_place : List ℤ → Option ℤ → Option ℤ → Option ℤ
with_place values None least = least
with_place values (Some value) least = with_value values value least

-- a place names a value that is at most this one
abbrev pub names_at_most : ℤ → Option ℤ → Bool
names_at_most value None = false
names_at_most value (Some other) = int_le other value
