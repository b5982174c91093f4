use Rattle.replica_parts.proofs.RoomLemmas.{none_grown, grown}
use Rattle.replica_parts.proofs.setting.medians_of.Goals as goal

pub loop-cell-init : goal.loop-cell-init
loop-cell-init c = none_grown _ _ c.new-medians.ensures.items

pub loop-cell-preserved : goal.loop-cell-preserved
loop-cell-preserved c = grown _ _ _ _ _ c.loop-cell.invariant c.is_among.ensures c.in_ok-push.ensures.items
