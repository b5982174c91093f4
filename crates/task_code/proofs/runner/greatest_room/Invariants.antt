-- The room so far, and that of the codes that are left, is that of all.
use Rattle.std.proofs.Common.{◌≡◌, max, drop}
use Rattle.task_code.specs.Machine.{greatest_room}
use Rattle.task_code.proofs.runner.greatest_room.Given as goal

abbrev pub invariant-loop-code : goal.invariant-loop-code
invariant-loop-code l = max l.room (greatest_room (drop l.code-index l.codes)) ≡ greatest_room l.codes
