use Rattle.frame_table.specs.Plan.{IsOf}
use Rattle.rcp_base.specs.Filling.{Filled}
use Rattle.rcp_base.specs.Tables.{table}
use Rattle.rcp_model.specs.Command.{command_of}
use Rattle.rcp_model.specs.declared.plan.PlanParts.{PlanParts}
use Rattle.replica_parts.specs.Ballots.{AreBallots}
use Rattle.replica_parts.specs.Places.{command_rows}
use Rattle.replica_parts.specs.Rooms.{AreCommandRows}
use Rattle.replica_parts.specs.Setting.{IsSettingOf}
use Rattle.std.proofs.Common.{Option, [], length, ℕ, ◌≡◌}
use Rattle.rcp_model.specs.Ballot as model
use Rattle.replica_parts.proofs.commanding.command_all.Given as goal

abbrev pub invariant-loop-replica : goal.invariant-loop-replica
invariant-loop-replica l = record {
  commands : (plan : PlanParts) (voted : ℕ → Option model.Ballot) → IsSettingOf plan l.setting → IsOf plan l.initial.table → AreBallots plan.replicas l.ballots voted
      → Filled l.setting.replicas (λ (p : ℕ). table (length plan.actuators) (λ (a : ℕ). command_of plan l.input p a (voted p))) [] (command_rows l.initial.rows.items) (command_rows l.rows.items) l.replica;
  room : AreCommandRows l.setting l.rows.items;
  kept : l.table ≡ l.initial.table;
}
