use Rattle.vote_pattern.proofs.GraphLaws.{listed_alike}
use Rattle.vote_pattern.proofs.laws.votes_of_a_graph_are_listed_alike.Goals as goal

pub returns : goal.returns
returns c = listed_alike
