-- The cells of the rows so far are in the list.
use Rattle.std.proofs.Common.{◌≡◌, ◌++◌, drop}
use Rattle.task_file.specs.Slots.{cells_set}
use Rattle.task_file.proofs.clashes.add_cells.Given as goal

abbrev pub invariant-loop-row : goal.invariant-loop-row
invariant-loop-row l = l.set ++ cells_set (drop l.row-index l.rows) ≡ l.initial.set ++ cells_set l.rows
