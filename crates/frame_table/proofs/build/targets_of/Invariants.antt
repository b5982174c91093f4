-- The cells that the tasks so far set.
use Rattle.std.proofs.Common.{◌≡◌, map, take}
use Rattle.frame_table.specs.Plan.{targets_of}
use Rattle.frame_table.proofs.build.targets_of.Given as goal

abbrev pub invariant-loop-task : goal.invariant-loop-task
invariant-loop-task l = l.targets ≡ map targets_of (take l.task-index l.tasks)
