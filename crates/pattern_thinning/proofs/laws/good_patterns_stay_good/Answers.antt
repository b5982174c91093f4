use Rattle.pattern_thinning.proofs.NeedLemmas.{thinned_is_as_good}
use Rattle.pattern_thinning.proofs.laws.good_patterns_stay_good.Goals as goal

pub returns : goal.returns
returns c = thinned_is_as_good
