use Rattle.rcp_model.proofs.CycleLaws.{witness_is_cycle}
use Rattle.rcp_model.proofs.laws.graphs.the_witness_is_a_cycle.Goals as goal

pub returns : goal.returns
returns c = witness_is_cycle
