-- The code of the actuators so far.
use Rattle.std.proofs.Common.{◌≡◌, take}
use Rattle.frame_table.specs.Plan.{commands_of}
use Rattle.frame_table.proofs.build.command_codes.Given as goal

abbrev pub invariant-loop-actuator : goal.invariant-loop-actuator
invariant-loop-actuator l = l.codes.items ≡ commands_of (take l.actuator-index l.actuators)
