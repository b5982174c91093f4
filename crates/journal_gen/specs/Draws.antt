-- Numbers that follow from a number. This project's own.
use Rattle.std.specs.Prelude.{ℕ, ◌+◌, ◌*◌, ◌/◌, ◌%◌, ◌^◌}

-- the seed after one draw more
unfoldable pub next_seed : ℕ → ℕ
next_seed seed = (seed * 1_103_515_245 + 12_345) % 2 ^ 31

-- the number that is drawn with a seed
unfoldable pub drawn : ℕ → ℕ
drawn seed = seed / 65_536
