-- The slots so far have no clash.
use Rattle.std.proofs.Common.{◌≡◌, drop}
use Rattle.task_file.specs.Slots.{clash_from}
use Rattle.task_file.proofs.clashes.check_slots.Given as goal

abbrev pub invariant-loop-i : goal.invariant-loop-i
invariant-loop-i l = clash_from l.tasks 0 l.slots ≡ clash_from l.tasks l.i (drop l.i l.slots)
