use Rattle.pattern_thinning.proofs.NeedLemmas.{thinned_are_needed}
use Rattle.pattern_thinning.proofs.laws.a_vote_stays_where_it_is_needed.Goals as goal

pub returns : goal.returns
returns c = thinned_are_needed
