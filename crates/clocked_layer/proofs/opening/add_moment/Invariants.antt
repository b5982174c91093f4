use Rattle.std.proofs.Common.{◌≡◌}
use Rattle.std.specs.List.{flat_map, range_with_len}
use Rattle.clocked_layer.specs.Opening.{AddsUpTo, moment_at}
use Rattle.event_queue.specs.Agenda.{in_turn_from}
use Rattle.rcp_model.specs.declared.plan.PlanParts.{PlanParts}
use Rattle.replica_parts.specs.Setting.{IsSettingOf}
use Rattle.clocked_layer.proofs.opening.add_moment.Given as goal

abbrev pub invariant-loop-replica : goal.invariant-loop-replica
invariant-loop-replica l = record {
  room : AddsUpTo (l.replica) l.fn.agenda l.agenda;
  added : (plan : PlanParts) → IsSettingOf plan l.setting
      → l.agenda.left ≡ in_turn_from l.fn.agenda.left
      (flat_map (moment_at plan l.frame l.input l.moment) (range_with_len 0 l.replica));
}
