-- What follows from the definitions of votes. This project's own.
use Rattle.std.specs.Prelude.{◌≡◌, ℕ, ◌+◌, ◌<◌, Bool, if◌then◌else◌}
use Rattle.rcp_model.specs.Walk.{Graph}
use Rattle.rcp_model.specs.PlanGraph.{voted_at, voted_count}
use Rattle.vote_pattern.specs.Votes.{Votes, ChangesVote, AreVotesOf, is_in, votes_at, vote_count}

-- one vote, or none
abbrev pub one_if : Bool → ℕ
one_if voted = if voted then 1 else 0

-- after a change there are as many votes as before, without the one that stood there and with the one that stands now
abbrev pub TheCountFollowsTheVotes : Type 0
TheCountFollowsTheVotes =
    (old new : Votes) (slot cell : ℕ) (value : Bool) → slot < old.slots → cell < old.cells
    → ChangesVote old new slot cell value
    → vote_count new + one_if (is_in old slot cell) ≡ vote_count old + one_if value

-- votes of a graph are listed and counted as the graph's are
pub record AreListedAlike (g : Graph) (votes : Votes) : Type 0 where
  pub lists : (slot : ℕ) → slot < g.slots → votes_at votes slot ≡ voted_at g slot
  pub count : vote_count votes ≡ voted_count g

-- so are those of each graph
abbrev pub VotesOfAGraphAreListedAlike : Type 0
VotesOfAGraphAreListedAlike = (g : Graph) (votes : Votes) → AreVotesOf g votes → AreListedAlike g votes
