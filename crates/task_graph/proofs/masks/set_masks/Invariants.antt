-- What the rows so far do.
use Rattle.std.proofs.Common.{◌≡◌, map, take}
use Rattle.task_graph.specs.inner.Masks.{set_mask}
use Rattle.task_graph.proofs.masks.set_masks.Given as goal

abbrev pub invariant-loop-row : goal.invariant-loop-row
invariant-loop-row l = l.masks ≡ map (set_mask l.lets) (take l.row-index l.rows)
