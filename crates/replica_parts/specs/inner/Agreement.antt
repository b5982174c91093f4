-- Messages that say nothing but what a replica has itself. This project's own.
use Rattle.std.specs.Prelude.{◌≡◌, ◌<◌, ℕ, ℤ, pos, IfSome, List, length, slice_index_or}
use Rattle.rcp_base.specs.Message.{Content, value_in}

-- for each cell a message names what was computed, or nothing
abbrev pub NamesNoOther : List ℤ → Content → Type 0
NamesNoOther computed message =
    (cell : ℕ) → cell < length computed
    → IfSome (value_in message cell) (λ value. value ≡ slice_index_or computed cell (pos 0))

-- a message names this slot and no value but these
abbrev pub Agrees : ℕ → List ℤ → Content → Type 0
Agrees slot computed message = (message.slot ≡ slot) × NamesNoOther computed message
