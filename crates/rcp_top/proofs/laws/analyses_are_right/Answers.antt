use Rattle.rcp_top.proofs.PatternLemmas.{analysed_right}
use Rattle.rcp_top.proofs.laws.analyses_are_right.Goals as goal

pub returns : goal.returns
returns c = analysed_right
