use Rattle.rcp_base.specs.Filling.{Filled}
use Rattle.rcp_model.specs.declared.plan.PlanParts.{PlanParts}
use Rattle.replica_parts.specs.Ballots.{heard_by}
use Rattle.replica_parts.specs.Places.{letter_at, messages_in}
use Rattle.replica_parts.specs.Rooms.{AreHeard}
use Rattle.replica_parts.specs.Setting.{IsSettingOf}
use Rattle.std.proofs.Common.{None}
use Rattle.replica_parts.proofs.hearing.hear_all.Given as goal

abbrev pub invariant-loop-sender : goal.invariant-loop-sender
invariant-loop-sender l = record {
  heard : (plan : PlanParts) → IsSettingOf plan l.setting
      → Filled l.setting.replicas (heard_by plan l.frame l.input l.receiver l.own (letter_at l.fresh) (letter_at l.late)) None (messages_in l.initial.places.items) (messages_in l.places.items) l.sender;
  room : AreHeard l.setting l.places.items;
}
