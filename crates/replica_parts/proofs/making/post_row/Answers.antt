use Rattle.replica_parts.proofs.RoomLemmas.{each_none, each_more, none_seen, seen}
use Rattle.replica_parts.specs.Places.{letter_in}
use Rattle.replica_parts.proofs.making.post_row.Goals as goal

pub loop-sender-init : goal.loop-sender-init
loop-sender-init c = record { none = none_seen letter_in _ _ c.new-row.ensures.items; room = each_none _ _ c.new-row.ensures.items }

pub loop-sender-preserved : goal.loop-sender-preserved
loop-sender-preserved c = record {
  none = seen letter_in _ _ _ _ _ c.loop-sender.invariant.none c.in_ok-new.ensures.none c.in_ok-push.ensures.items;
  room = each_more _ _ _ _ _ c.loop-sender.invariant.room c.in_ok-new.ensures.room c.in_ok-push.ensures.items;
}
