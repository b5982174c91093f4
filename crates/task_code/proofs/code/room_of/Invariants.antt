-- The room so far, and that of the instructions that are left, is that of the code.
use Rattle.std.proofs.Common.{◌≡◌, ◌≤◌, max, drop}
use Rattle.task_code.specs.Machine.{room_from, room_of}
use Rattle.task_code.proofs.code.room_of.Given as goal

abbrev pub invariant-loop-instruction : goal.invariant-loop-instruction
invariant-loop-instruction l = record {
  whole : max (room_from (drop l.instruction-index l.code) l.height l.lets) l.room ≡ room_of l.code;
  height : l.height ≤ l.instruction-index;
  lets : l.lets ≤ l.instruction-index;
}
