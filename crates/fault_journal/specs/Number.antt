-- The numbers of a journal: an optional minus, and digits. This project's own.
use Rattle.std.specs.Prelude.{ℕ, ◌^◌, ◌-ℤ◌, Bool, ◌&&◌, nat_le, ℤ, pos, neg_ℤ, int_le, List, length, drop, Option, Some, None, if◌then◌else◌}
use Rattle.std.specs.Char.{is_ascii_digit}
use Rattle.std.specs.List.{list_all}
use Rattle.std.specs.Str.Parse.{digits_value, starts_with_minus}

-- a text without a minus that stands first
abbrev pub digits_in : List ℕ → List ℕ
digits_in text = if starts_with_minus text then drop 1 text else text

-- one digit or more, after an optional minus
abbrev pub is_number : List ℕ → Bool
is_number text = nat_le 1 (length (digits_in text)) && list_all is_ascii_digit (digits_in text)

-- what they are worth
abbrev pub worth : List ℕ → ℤ
worth text =
    let digits = pos (digits_value 10 (digits_in text)) in
    if starts_with_minus text then neg_ℤ digits else digits

abbrev pub fits_in_64_bits : ℤ → Bool
fits_in_64_bits x = int_le (neg_ℤ (pos (2 ^ 63))) x && int_le x (pos (2 ^ 63) -ℤ pos 1)

-- the number that a text writes, if it writes one and 64 bits hold it
unfoldable pub integer_of : List ℕ → Option ℤ
integer_of text = if is_number text && fits_in_64_bits (worth text) then Some (worth text) else None
