use Rattle.std.proofs.Common.{None}
use Rattle.rcp_base.specs.declared.TheConstants.{MAX_REPLICAS}
use Rattle.rcp_base.specs.Filling.{Filled}
use Rattle.rcp_model.specs.System.{SystemState}
use Rattle.layer_stack.proofs.run.voted_command.Given as goal

abbrev pub invariant-loop-replica : goal.invariant-loop-replica
invariant-loop-replica g l =
    (state : SystemState) → g.L.Layer.is_at l.layer l.plan state
    → Filled MAX_REPLICAS (λ replica. state.commands replica l.actuator) None l.initial.commands l.commands l.replica
