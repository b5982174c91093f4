-- The code of the tasks so far.
use Rattle.std.proofs.Common.{◌≡◌, map, take}
use Rattle.task_code.specs.Compiler.{task_code}
use Rattle.frame_table.proofs.build.codes_of.Given as goal

abbrev pub invariant-loop-task : goal.invariant-loop-task
invariant-loop-task l = l.codes.items ≡ map task_code (take l.task-index l.tasks)
