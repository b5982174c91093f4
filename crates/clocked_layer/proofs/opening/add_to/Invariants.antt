use Rattle.std.proofs.Common.{◌≡◌, ◌*◌}
use Rattle.std.specs.List.{flat_map, range_with_len}
use Rattle.clocked_layer.specs.Events.{events_from}
use Rattle.clocked_layer.specs.Opening.{AddsUpTo}
use Rattle.event_queue.specs.Agenda.{in_turn_from}
use Rattle.rcp_model.specs.System.{SystemState}
use Rattle.rcp_model.specs.declared.plan.PlanParts.{PlanParts}
use Rattle.replica_parts.specs.Places.{post_at}
use Rattle.replica_parts.specs.Setting.{IsSettingOf}
use Rattle.clocked_layer.proofs.opening.add_to.Given as goal

abbrev pub invariant-loop-sender : goal.invariant-loop-sender
invariant-loop-sender l = record {
  room : AddsUpTo (2 * l.sender) l.fn.agenda l.agenda;
  added : (plan : PlanParts) (state : SystemState) → IsSettingOf plan l.setting
      → state.done ≡ l.frame → post_at l.late ≡ state.letters
      → l.agenda.left ≡ in_turn_from l.fn.agenda.left
      (flat_map (events_from plan state l.input l.receiver) (range_with_len 0 l.sender));
}
