-- Words as sets of small numbers. This project's own.
use Rattle.std.specs.Prelude.{◌≡◌, ◌≢◌, ℕ, ◌==◌, nat_lt, Bool, false, not, ◌&&◌, Option, MatchOption}
use Rattle.std.specs.Int.{bit_at}
use Rattle.rcp_base.specs.Search.{IsFirst}

-- the number is in the word
abbrev pub has_bit : ℕ → ℕ → Bool
has_bit word number = bit_at word number == 1

-- the number is in the new word or not, and the others are as in the old one
pub record WritesBit (old new number : ℕ) (value : Bool) : Type 0 where
  pub here : has_bit new number ≡ value
  pub others : (other : ℕ) → other ≢ number → has_bit new other ≡ has_bit old other

-- the numbers in the word are those below
abbrev pub AreBelow : ℕ → ℕ → Type 0
AreBelow word number = (i : ℕ) → has_bit word i ≡ nat_lt i number

-- the numbers in the other word are those below that are not in the word
abbrev pub AreOthers : ℕ → ℕ → ℕ → Type 0
AreOthers word other number = (i : ℕ) → has_bit other i ≡ (nat_lt i number && not (has_bit word i))

-- the least number in the word, or none where there is none
abbrev pub IsFirstBit : ℕ → Option ℕ → Type 0
IsFirstBit word first = MatchOption first ((number : ℕ) → has_bit word number ≡ false) (IsFirst 64 (has_bit word))
