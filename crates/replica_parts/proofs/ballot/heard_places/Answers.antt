use Rattle.replica_parts.proofs.RoomLemmas.{each_none, each_more}
use Rattle.replica_parts.proofs.ballot.heard_places.Goals as goal

pub loop-sender-init : goal.loop-sender-init
loop-sender-init c = each_none _ _ c.new-places.ensures.items

pub loop-sender-preserved : goal.loop-sender-preserved
loop-sender-preserved c = each_more _ _ _ _ _ c.loop-sender.invariant c.in_ok-new.ensures.room c.in_ok-push.ensures.items
