-- What the tasks so far do.
use Rattle.std.proofs.Common.{◌≡◌, map, take}
use Rattle.task_graph.specs.inner.Masks.{task_masks}
use Rattle.task_graph.proofs.masks.masks_of_tasks.Given as goal

abbrev pub invariant-loop-task : goal.invariant-loop-task
invariant-loop-task l = l.masks ≡ map task_masks (take l.task-index l.tasks)
