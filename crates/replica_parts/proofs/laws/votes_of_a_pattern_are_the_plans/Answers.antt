use Rattle.replica_parts.proofs.PatternLemmas.{votes_alike}
use Rattle.replica_parts.proofs.laws.votes_of_a_pattern_are_the_plans.Goals as goal

pub returns : goal.returns
returns c = votes_alike
