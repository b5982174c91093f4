use Rattle.frame_table.specs.Plan.{IsOf}
use Rattle.phase_machine.specs.Phases.{evaluated_over}
use Rattle.rcp_base.specs.Filling.{Filled}
use Rattle.rcp_model.specs.declared.plan.PlanParts.{PlanParts}
use Rattle.rcp_model.specs.Ballot.{Ballot}
use Rattle.replica_parts.specs.Ballots.{IsBallotOrNone}
use Rattle.std.proofs.Common.{None, Some, length, ℕ, ◌≡◌}
use Rattle.phase_machine.proofs.commanding.evaluate_all.Given as goal

abbrev pub invariant-loop-actuator : goal.invariant-loop-actuator
invariant-loop-actuator l = record {
  commands : (plan : PlanParts) (replicas : ℕ) (voted : Ballot) → IsOf plan l.initial.table
      → IsBallotOrNone replicas l.ballot (Some voted)
      → Filled l.setting.actuators (λ (a : ℕ). Some (evaluated_over plan l.sensors voted a)) None
      l.initial.commands.items l.commands.items l.actuator;
  size : length l.commands.items ≡ l.setting.actuators;
  kept : l.table ≡ l.initial.table;
}
