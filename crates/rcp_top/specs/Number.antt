-- Numbers among the words: digits alone. This project's own.
use Rattle.std.specs.Prelude.{ℕ, ◌^◌, nat_le, nat_lt, Bool, ◌&&◌, List, length, Option, Some, None, if◌then◌else◌}
use Rattle.std.specs.Char.{is_ascii_digit}
use Rattle.std.specs.List.{list_all}
use Rattle.std.specs.Str.Parse.{digits_value}
use Rattle.rcp_base.specs.declared.TheConstants.{MAX_FRAMES}

-- what digits are worth
abbrev pub worth : List ℕ → ℕ
worth digits = digits_value 10 digits

-- there are some, and 64 bits hold what they are worth
abbrev pub is_worth_64_bits : List ℕ → Bool
is_worth_64_bits digits = nat_le 1 (length digits) && nat_lt (worth digits) (2 ^ 64)

-- the number that digits write, if they are some and 64 bits hold it
unfoldable pub number_of : List ℕ → Option ℕ
number_of word =
    if list_all is_ascii_digit word && is_worth_64_bits word then Some (worth word) else None

-- a number of frames that a journal may have
abbrev pub a_count : Option ℕ → Option ℕ
a_count None = None
a_count (Some frames) = if nat_le 1 frames && nat_le frames MAX_FRAMES then Some frames else None

-- the number of frames that digits write, if a journal may have so many
unfoldable pub frames_of : List ℕ → Option ℕ
frames_of word = a_count (number_of word)
