use Rattle.std.proofs.lemmas.List.{length-replicate}
use Rattle.rcp_base.specs.Message.{Content}
use Rattle.replica_parts.proofs.RoomLemmas.{each_none, each_more}
use Rattle.std.proofs.Common.{ap, length, ◌∙◌}
use Rattle.replica_parts.proofs.making.messages.Goals as goal

pub loop-replica-init : goal.loop-replica-init
loop-replica-init c = each_none _ _ c.new-messages.ensures.items

pub loop-replica-preserved : goal.loop-replica-preserved
loop-replica-preserved c = each_more _ _ _ _ _ c.loop-replica.invariant (ap (λ (m : Content). length m.values) c.in_ok-new.ensures ∙ length-replicate _ _) c.in_ok-push.ensures.items
