-- The masks so far, and those of the rows that are left, are those of all rows.
use Rattle.std.proofs.Common.{◌≡◌, [], drop}
use Rattle.task_graph.specs.inner.Masks.{let_masks_after}
use Rattle.task_graph.proofs.masks.let_masks.Given as goal

abbrev pub invariant-loop-row : goal.invariant-loop-row
invariant-loop-row l = let_masks_after l.masks.items (drop l.row-index l.rows) ≡ let_masks_after [] l.rows
