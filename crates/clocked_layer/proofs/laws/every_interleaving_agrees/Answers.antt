use Rattle.clocked_layer.proofs.Interleavings.{one_block}
use Rattle.clocked_layer.proofs.laws.every_interleaving_agrees.Goals as goal

pub returns : goal.returns
returns c plan state rows boxes log range rules of ready legal =
    let order = c.moments_keep_order.ensures plan state.done rows range rules of in
    one_block plan state rows boxes log (record { ready = ready; order = order }) legal
