use Rattle.clocked_layer.proofs.Interleavings.{next_ready}
use Rattle.clocked_layer.proofs.laws.every_frame_leaves_ready.Goals as goal

pub returns : goal.returns
returns c plan state rows range rules of =
    next_ready plan state rows (c.moments_keep_order.ensures plan state.done rows range rules of)
