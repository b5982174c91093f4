use Rattle.rcp_model.proofs.UniqueLaws.{cycle_unique, walk_unique}
use Rattle.rcp_model.proofs.laws.graphs.each_witness_is_unique.Goals as goal

pub returns : goal.returns
returns c = λ g. record { cycle = cycle_unique g; walk = walk_unique g }
