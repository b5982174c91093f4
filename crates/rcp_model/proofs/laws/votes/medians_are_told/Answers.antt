use Rattle.rcp_model.proofs.VoteLaws.{medians_told}
use Rattle.rcp_model.proofs.laws.votes.medians_are_told.Goals as goal

pub returns : goal.returns
returns c = medians_told
