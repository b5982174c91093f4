use Rattle.rcp_base.specs.Filling.{Filled}
use Rattle.rcp_model.specs.System.{still_on_its_way}
use Rattle.rcp_model.specs.declared.plan.PlanParts.{PlanParts}
use Rattle.replica_parts.specs.Places.{letter_rows}
use Rattle.replica_parts.specs.Rooms.{ArePostRows}
use Rattle.replica_parts.specs.Setting.{IsSettingOf}
use Rattle.std.proofs.Common.{[], get_or, map, ℕ}
use Rattle.replica_parts.proofs.keeping.keep_all.Given as goal

abbrev pub invariant-loop-receiver : goal.invariant-loop-receiver
invariant-loop-receiver l = record {
  letters : (plan : PlanParts) → IsSettingOf plan l.setting
      → Filled l.setting.replicas (λ (k : ℕ). map (still_on_its_way plan l.frame) (get_or (letter_rows l.initial.rows.items) k [])) [] (letter_rows l.initial.rows.items) (letter_rows l.rows.items) l.receiver;
  room : ArePostRows l.setting l.rows.items;
}
