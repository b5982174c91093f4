-- The tasks so far have no clash, and have set these cells.
use Rattle.std.proofs.Common.{◌≡◌, [], take, drop}
use Rattle.task_file.specs.Slots.{task_clash_from}
use Rattle.task_file.proofs.clashes.check_tasks.Given as goal

abbrev pub invariant-loop-j : goal.invariant-loop-j
invariant-loop-j l = task_clash_from l.tasks l.i [] [] 0 l.numbers ≡ task_clash_from l.tasks l.i (take l.j l.numbers) l.set l.j (drop l.j l.numbers)
