use Rattle.clock_model.proofs.OrderLemmas.{order_kept}
use Rattle.clock_model.proofs.laws.moments_keep_order.Goals as goal

pub returns : goal.returns
returns c = order_kept
