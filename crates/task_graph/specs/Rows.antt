-- Which cells each cell needs in each slot, as one word each. This project's own.
use Rattle.std.specs.Prelude.{ℕ, ◌<◌, ◌+◌, ◌*◌, ◌≡◌, Bool, ◌&&◌, nat_lt, List, slice_index_or}
use Rattle.rcp_base.specs.Bits.{has_bit}
use Rattle.rcp_model.specs.declared.plan.PlanParts.{PlanParts}
use Rattle.rcp_model.specs.PlanGraph.{graph_of_plan}
use Rattle.rcp_model.specs.Walk.{Graph}

-- by slot and then by cell, a word of the cells that feed it
pub record Rows : Type 0 where
  pub slots : ℕ
  pub cells : ℕ
  pub words : List ℕ

-- the cell needs that other in the slot
unfoldable pub needs_in : Rows → ℕ → ℕ → ℕ → Bool
needs_in rows slot cell from =
    nat_lt slot rows.slots && nat_lt cell rows.cells && nat_lt from rows.cells
    && has_bit (slice_index_or rows.words (slot * rows.cells + cell) 0) from

-- the bits of the word are the cells that the cell needs in the slot
abbrev pub AreNeeds : Rows → ℕ → ℕ → ℕ → Type 0
AreNeeds rows slot cell word = (from : ℕ) → has_bit word from ≡ needs_in rows slot cell from

-- the rows say of each slot of a graph which cell feeds which
pub record AreFeedsOf (g : Graph) (rows : Rows) : Type 0 where
  pub slots : rows.slots ≡ g.slots
  pub cells : rows.cells ≡ g.cells
  pub needs :
      (slot cell from : ℕ) → slot < g.slots → cell < g.cells → from < g.cells
      → needs_in rows slot cell from ≡ g.feeds slot from cell

-- they say so of a plan
abbrev pub IsDependenceOf : PlanParts → Rows → Type 0
IsDependenceOf plan rows = AreFeedsOf (graph_of_plan plan) rows
