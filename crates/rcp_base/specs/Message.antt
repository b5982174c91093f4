-- What a message says. After NASA TM-102716.
use Rattle.std.specs.Prelude.{ℕ, ℤ, List, slice_index_or, Option, None}

-- a slot, and a value or none for each cell
pub record Content : Type 0 where
  pub slot : ℕ
  pub values : List (Option ℤ)

-- the value of a cell in a message, if it names one
abbrev pub value_in : Content → ℕ → Option ℤ
value_in message cell = slice_index_or message.values cell None
