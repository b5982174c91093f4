-- What follows from the definition of dependence. This project's own.
use Rattle.std.specs.Prelude.{ℕ, ◌<◌, ◌≡◌, ◌↔◌, true, ℤ, pos, List, length, slice_index_or}
use Rattle.rcp_model.specs.declared.task.Task.{Task}
use Rattle.rcp_model.specs.declared.plan.PlanParts.{PlanParts}
use Rattle.rcp_model.specs.Slot.{cells_after_slot}
use Rattle.rcp_model.specs.Dependence.{feeds, feeds_through, FeedsThrough}

-- two lists of cells have the same value at a cell
abbrev pub Agree : List ℤ → List ℤ → ℕ → Type 0
Agree one other c = slice_index_or one c (pos 0) ≡ slice_index_or other c (pos 0)

-- cells that agree where they feed a cell in a slot leave the same value in it
abbrev pub FeedingCellsDecide : Type 0
FeedingCellsDecide =
    (plan : PlanParts) (slot c : ℕ) (sensors one other : List ℤ)
    → c < length plan.cells → length one ≡ length plan.cells → length other ≡ length plan.cells
    → ((d : ℕ) → d < length plan.cells → feeds plan slot d c ≡ true → Agree one other d)
    → Agree (cells_after_slot plan slot sensors one) (cells_after_slot plan slot sensors other) c

-- one cell feeds another over tasks exactly where there is a way from the one to the other
abbrev pub FeedingIsAWay : Type 0
FeedingIsAWay =
    (cells : ℕ) (tasks : List Task) (from to : ℕ)
    → (feeds_through cells tasks from to ≡ true) ↔ FeedsThrough cells tasks from to
