use Rattle.pattern_thinning.proofs.NeedLemmas.{thinned_is_lean}
use Rattle.pattern_thinning.proofs.laws.no_vote_is_redundant.Goals as goal

pub returns : goal.returns
returns c = thinned_is_lean
