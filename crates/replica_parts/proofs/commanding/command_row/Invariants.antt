use Rattle.frame_table.specs.Plan.{IsOf}
use Rattle.rcp_base.specs.Filling.{Filled}
use Rattle.rcp_model.specs.Command.{command_of}
use Rattle.rcp_model.specs.declared.plan.PlanParts.{PlanParts}
use Rattle.replica_parts.specs.Ballots.{IsBallotOrNone}
use Rattle.std.proofs.Common.{None, Option, length, ℕ, ◌≡◌}
use Rattle.rcp_model.specs.Ballot as model
use Rattle.replica_parts.proofs.commanding.command_row.Given as goal

abbrev pub invariant-loop-actuator : goal.invariant-loop-actuator
invariant-loop-actuator l = record {
  row : (plan : PlanParts) (replicas : ℕ) (voted : Option model.Ballot) → IsOf plan l.initial.table → IsBallotOrNone replicas l.ballot voted
      → Filled l.setting.actuators (λ (a : ℕ). command_of plan l.input l.replica a voted) None l.initial.row.items l.row.items l.actuator;
  size : length l.row.items ≡ l.setting.actuators;
  kept : l.table ≡ l.initial.table;
}
