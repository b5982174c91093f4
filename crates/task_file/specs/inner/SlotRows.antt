-- Slots by numbers, of lengths that a file permits.
-- This project's own.
use Rattle.std.specs.Prelude.{◌≤◌, length}
use Rattle.rcp_base.specs.declared.TheConstants.{MAX_TASKS, MAX_CELLS}
use Rattle.rcp_model.specs.declared.plan.SlotRow.{SlotRow}

-- at most 128 tasks and 64 votes
pub record IsShortRow (row : SlotRow) : Type 0 where
  pub tasks : length row.tasks ≤ MAX_TASKS
  pub votes : length row.votes ≤ MAX_CELLS
