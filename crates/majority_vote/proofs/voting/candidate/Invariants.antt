use Rattle.majority_vote.proofs.CandidateLemmas.{Leads}
use Rattle.majority_vote.proofs.voting.candidate.Given as goal

abbrev pub invariant-loop-vote : goal.invariant-loop-vote
invariant-loop-vote l = Leads l.votes l.vote-index l.leader l.lead
