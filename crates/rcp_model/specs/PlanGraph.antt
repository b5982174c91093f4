-- The graph that a plan's tasks and votes have by their definitions, and the votes of a graph. This project's own.
use Rattle.std.specs.Prelude.{ℕ, List, length}
use Rattle.std.specs.List.{filter, range_with_len, sum_by}
use Rattle.rcp_model.specs.declared.plan.PlanParts.{PlanParts}
use Rattle.rcp_model.specs.Slot.{slot_count}
use Rattle.rcp_model.specs.Dependence.{feeds}
use Rattle.rcp_model.specs.Messages.{is_voted}
use Rattle.rcp_model.specs.Walk.{Graph}

abbrev pub graph_of_plan : PlanParts → Graph
graph_of_plan plan = record {
  slots = slot_count plan;
  cells = length plan.cells;
  feeds = feeds plan;
  votes = is_voted plan;
}

-- the cells that a slot votes, from low to high
unfoldable pub voted_at : Graph → ℕ → List ℕ
voted_at g slot = filter (g.votes slot) (range_with_len 0 g.cells)

-- how many pairs of slot and cell are voted
unfoldable pub voted_count : Graph → ℕ
voted_count g = sum_by (λ slot. length (voted_at g slot)) (range_with_len 0 g.slots)
