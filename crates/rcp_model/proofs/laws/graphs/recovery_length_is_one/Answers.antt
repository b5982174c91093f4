use Rattle.rcp_model.proofs.ShownLaws.{length_is_one}
use Rattle.rcp_model.proofs.laws.graphs.recovery_length_is_one.Goals as goal

pub returns : goal.returns
returns c = length_is_one
