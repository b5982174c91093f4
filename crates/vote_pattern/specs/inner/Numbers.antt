-- How many numbers a word has, and which. This project's own.
use Rattle.std.specs.Prelude.{◌≡◌, ℕ, ◌==◌, List}
use Rattle.std.specs.List.{list_any, count_by, range_with_len}
use Rattle.rcp_base.specs.Bits.{has_bit}

-- how many numbers are in the word
unfoldable pub number_count : ℕ → ℕ
number_count word = count_by (has_bit word) (range_with_len 0 64)

-- the word has these numbers and no other
pub record AreBitsOf (numbers : List ℕ) (word : ℕ) : Type 0 where
  pub bits : (number : ℕ) → has_bit word number ≡ list_any (λ one. one == number) numbers
