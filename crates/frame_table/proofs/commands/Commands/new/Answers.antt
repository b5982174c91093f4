-- The runner has room for each command, and each has one result.
use Rattle.std.proofs.Common.{subst, All, ◌≤◌}
use Rattle.task_code.specs.Machine.{room_of}
use Rattle.frame_table.proofs.CountLemmas.{one_each}
use Rattle.frame_table.proofs.commands.Commands.new.Goals as goal

pub invariant_of-result : goal.invariant_of-result
invariant_of-result c = (
  subst (All (λ code. room_of code ≤ c.in_ok-runner.runner)) c.as_slice.ensures.value c.in_ok-runner.ensures.enough,
  one_each c.args.actuators.now c.in_ok-codes.codes.items c.in_ok-codes.ensures,
)
