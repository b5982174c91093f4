use Rattle.majority_vote.proofs.CandidateLemmas.{voted_leader, voted_no_leader}
use Rattle.majority_vote.proofs.voting.majority.Goals as goal

pub returns-then-is_voted : goal.returns-then-is_voted
returns-then-is_voted c = voted_leader c.args.votes.now c.candidate-leader.result c.is_voted.result c.is_voted.ensures c.if-is_voted.true

pub returns-else-is_voted : goal.returns-else-is_voted
returns-else-is_voted c = voted_no_leader c.args.votes.now c.candidate-leader.result c.is_voted.result c.is_voted.ensures c.candidate-leader.ensures c.if-is_voted.false
