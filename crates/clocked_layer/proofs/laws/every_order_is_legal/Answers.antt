use Rattle.clocked_layer.proofs.Interleavings.{order_legal}
use Rattle.clocked_layer.proofs.laws.every_order_is_legal.Goals as goal

pub returns : goal.returns
returns c = order_legal
