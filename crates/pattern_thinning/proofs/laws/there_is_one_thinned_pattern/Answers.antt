use Rattle.pattern_thinning.proofs.NeedLemmas.{thinned_are_unique}
use Rattle.pattern_thinning.proofs.laws.there_is_one_thinned_pattern.Goals as goal

pub returns : goal.returns
returns c = thinned_are_unique
