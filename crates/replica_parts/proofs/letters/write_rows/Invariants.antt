use Rattle.rcp_base.specs.Filling.{Filled}
use Rattle.rcp_base.specs.Tables.{table}
use Rattle.rcp_model.specs.Messages.{letter_to}
use Rattle.rcp_model.specs.declared.plan.PlanParts.{PlanParts}
use Rattle.replica_parts.specs.Places.{letter_rows}
use Rattle.replica_parts.specs.Rooms.{ArePostRows}
use Rattle.replica_parts.specs.Setting.{IsSettingOf}
use Rattle.replica_parts.specs.States.{no_content}
use Rattle.std.proofs.Common.{[], get_or, ℕ}
use Rattle.replica_parts.proofs.letters.write_rows.Given as goal

abbrev pub invariant-loop-receiver : goal.invariant-loop-receiver
invariant-loop-receiver l = record {
  letters : (plan : PlanParts) → IsSettingOf plan l.setting → Filled l.setting.replicas (λ (receiver : ℕ). table plan.replicas (λ (sender : ℕ). letter_to plan l.frame l.input (get_or l.own sender no_content) sender receiver)) [] (letter_rows l.initial.rows.items) (letter_rows l.rows.items) l.receiver;
  room : ArePostRows l.setting l.rows.items;
}
