-- The instructions that are left do from here what all do from the start, and have room.
use Rattle.std.proofs.Common.{◌≡◌, ◌+◌, ◌-◌, ◌≤◌, length, drop}
use Rattle.task_code.specs.Machine.{state_of, start, run, room_from, result_count}
use Rattle.task_code.proofs.machine.Machine.run.Given as goal

abbrev pub invariant-loop-instruction : goal.invariant-loop-instruction
invariant-loop-instruction g l = record {
  whole : run l.sensors l.cells (drop l.instruction-index l.code) (state_of l.at l.stack l.lets l.out)
      ≡ run l.sensors l.cells l.code start;
  left : l.at.given + result_count (drop l.instruction-index l.code) ≡ length l.out;
  stack_fits : room_from (drop l.instruction-index l.code) (length l.stack - l.at.below) l.at.lets ≤ length l.stack;
  lets_fit : room_from (drop l.instruction-index l.code) (length l.stack - l.at.below) l.at.lets ≤ length l.lets;
  below : l.at.below ≤ length l.stack;
  counted : l.steps ≡ l.initial.steps + l.instruction-index;
}
