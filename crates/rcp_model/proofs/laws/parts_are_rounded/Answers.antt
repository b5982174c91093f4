use Rattle.rcp_model.proofs.RoundingLaws.{parts_rounded}
use Rattle.rcp_model.proofs.laws.parts_are_rounded.Goals as goal

pub returns : goal.returns
returns c = parts_rounded
