use Rattle.rcp_base.specs.Filling.{Filled}
use Rattle.rcp_model.specs.declared.plan.PlanParts.{PlanParts}
use Rattle.replica_parts.specs.Rooms.{AreMessages}
use Rattle.replica_parts.specs.Setting.{IsSettingOf}
use Rattle.replica_parts.specs.States.{message_of, no_content, no_state}
use Rattle.std.proofs.Common.{get_or, ℕ}
use Rattle.vote_pattern.specs.Votes.{is_in}
use Rattle.replica_parts.proofs.computing.write_owns.Given as goal

abbrev pub invariant-loop-replica : goal.invariant-loop-replica
invariant-loop-replica l = record {
  own : (plan : PlanParts) → IsSettingOf plan l.setting → Filled l.setting.replicas (λ (p : ℕ). message_of plan (is_in l.votes) (get_or l.computed p no_state)) no_content l.initial.own.items l.own.items l.replica;
  room : AreMessages l.setting l.own.items;
}
