use Rattle.std.proofs.Common.{◌≡◌, ℕ, ◌&&◌, ◌==◌, nat_lt, cond}
use Rattle.rcp_model.specs.Messages.{letter_to}
use Rattle.rcp_model.specs.declared.plan.PlanParts.{PlanParts}
use Rattle.replica_parts.specs.Places.{post_at}
use Rattle.replica_parts.specs.Rooms.{ArePostRows}
use Rattle.replica_parts.specs.Setting.{IsSettingOf}
use Rattle.clocked_layer.proofs.letters.post.Given as goal

abbrev pub invariant-loop-receiver : goal.invariant-loop-receiver
invariant-loop-receiver l = record {
  room : ArePostRows l.setting l.letters.items;
  posted : (plan : PlanParts) (q p : ℕ) → IsSettingOf plan l.setting
      → post_at l.letters.items q p ≡ cond ((p == l.sender) && nat_lt q l.receiver)
      (letter_to plan l.frame l.input l.own l.sender q) (post_at l.initial.letters.items q p);
}
