-- Which cells one step leads to, as the bits of a word. This project's own.
use Rattle.std.specs.Prelude.{◌≡◌, ℕ, Bool, ◌&&◌}
use Rattle.rcp_base.specs.Bits.{has_bit}
use Rattle.rcp_base.specs.Search.{any_below}
use Rattle.rcp_model.specs.Node.{make_node}
use Rattle.rcp_model.specs.Walk.{Graph}
use Rattle.rcp_model.specs.Levels.{is_unvoted}

-- a cell of the word feeds the cell in the slot
abbrev pub is_fed : Graph → ℕ → ℕ → ℕ → Bool
is_fed g word slot cell = any_below g.cells (λ from. has_bit word from && g.feeds slot from cell)

-- and the cell is unvoted there
abbrev pub is_next : Graph → ℕ → ℕ → ℕ → Bool
is_next g word slot cell = is_unvoted g (make_node slot cell) && is_fed g word slot cell

-- the bits of the next word are these cells
abbrev pub AreNext : Graph → ℕ → ℕ → ℕ → Type 0
AreNext g word slot next = (cell : ℕ) → has_bit next cell ≡ is_next g word slot cell
