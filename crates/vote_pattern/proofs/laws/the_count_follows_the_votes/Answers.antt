use Rattle.vote_pattern.proofs.CountLaws.{count_follows}
use Rattle.vote_pattern.proofs.laws.the_count_follows_the_votes.Goals as goal

pub returns : goal.returns
returns c = count_follows
