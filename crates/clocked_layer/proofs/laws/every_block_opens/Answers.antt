use Rattle.clocked_layer.proofs.Ways.{opens}
use Rattle.clocked_layer.proofs.laws.every_block_opens.Goals as goal

pub returns : goal.returns
returns c plan state rows boxes range rules of ready =
    let order = c.moments_keep_order.ensures plan state.done rows range rules of in
    opens plan state rows boxes (record { ready = ready; order = order })
