use Rattle.rcp_model.proofs.CycleLaws.{cycle_iff_walk}
use Rattle.rcp_model.proofs.laws.graphs.cycle_iff_long_walk.Goals as goal

pub returns : goal.returns
returns c = cycle_iff_walk
