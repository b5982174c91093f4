use Rattle.pattern_thinning.proofs.GoodLemmas.{good_test}
use Rattle.pattern_thinning.proofs.laws.the_test_of_good_patterns_is_right.Goals as goal

pub returns : goal.returns
returns c = good_test
