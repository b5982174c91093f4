use Rattle.rcp_base.proofs.MedianLaws.{majority_is_median}
use Rattle.rcp_model.proofs.laws.votes.a_majority_is_the_median.Goals as goal

pub returns : goal.returns
returns c = majority_is_median
