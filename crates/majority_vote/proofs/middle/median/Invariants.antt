use Rattle.std.proofs.Common.{◌≡◌, take}
use Rattle.rcp_base.specs.Median.{values_named}
use Rattle.majority_vote.proofs.MiddleLemmas.{least_half}
use Rattle.majority_vote.proofs.middle.median.Given as goal

abbrev pub invariant-loop-vote : goal.invariant-loop-vote
invariant-loop-vote l = l.least ≡ least_half (values_named l.votes) (take l.vote-index l.votes)
