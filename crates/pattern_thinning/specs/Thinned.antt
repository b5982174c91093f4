-- What thinning leaves. After NASA TM-102716; the limit and the order are this project's own.
use Rattle.std.specs.Prelude.{◌≡◌, ◌↔◌, ℕ, ◌<◌, Bool, true, ◌&&◌, ◌||◌, nat_lt, List, Option}
use Rattle.rcp_model.specs.declared.node.Node.{Node}
use Rattle.rcp_model.specs.Walk.{Graph, IsUnvotedCycle}
use Rattle.rcp_model.specs.Levels.{number}
use Rattle.rcp_model.specs.Thinning.{IsGood, IsRedundant, thinned}
use Rattle.task_graph.specs.Rows.{Rows, AreFeedsOf}
use Rattle.vote_pattern.specs.Votes.{Votes, AreVotesOf}
use Rattle.rcp_model.specs.Node.{make_node}

-- the new votes are the thinned ones of each graph that has these rows and the old votes
abbrev pub IsThinnedFor : Option ℕ → Rows → Votes → Votes → Type 0
IsThinnedFor limit rows old new = (g : Graph) → AreFeedsOf g rows → AreVotesOf g old → AreVotesOf (thinned limit g) new

-- there is no unvoted cycle, and no vote that can be spared
pub record IsLean (limit : Option ℕ) (g : Graph) : Type 0 where
  pub no_cycle : (nodes : List Node) → IsUnvotedCycle g nodes → ⊥
  pub no_vote : (n : Node) → IsRedundant limit g n → ⊥

-- the graph with other votes
abbrev pub voting : Graph → (ℕ → ℕ → Bool) → Graph
voting g votes = record { slots = g.slots; cells = g.cells; feeds = g.feeds; votes = votes }

-- in the order of nodes: before a node the one votes, after it the other votes, and at it none
abbrev pub votes_around : Graph → Node → (ℕ → ℕ → Bool) → (ℕ → ℕ → Bool) → ℕ → ℕ → Bool
votes_around g n before after slot cell =
    let v = number g (make_node slot cell) in
    nat_lt v (number g n) && before slot cell || nat_lt (number g n) v && after slot cell

-- the needed votes of a graph: each is one of the graph's, and one of the graph's is among them exactly where they, before
-- it, and all of the graph's after it are not a good pattern
pub record AreThinnedOf (limit : Option ℕ) (g : Graph) (votes : ℕ → ℕ → Bool) : Type 0 where
  pub part : (slot cell : ℕ) → slot < g.slots → cell < g.cells → votes slot cell ≡ true → g.votes slot cell ≡ true
  pub kept :
      (slot cell : ℕ) → slot < g.slots → cell < g.cells → g.votes slot cell ≡ true
      → (votes slot cell ≡ true) ↔ (¬ (IsGood limit (voting g (votes_around g (make_node slot cell) votes g.votes))))
