use Rattle.rcp_model.proofs.VoteLaws.{majorities_told}
use Rattle.rcp_model.proofs.laws.votes.majorities_are_told.Goals as goal

pub returns : goal.returns
returns c = majorities_told
