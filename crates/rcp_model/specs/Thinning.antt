-- Good patterns: which votes can be spared, and the pattern without them. After NASA TM-102716; the limit and the order are this
-- project's own.
use Rattle.std.specs.Prelude.{◌≡◌, ℕ, ◌-◌, ◌==◌, ◌<◌, nat_lt, zero, suc, Bool, true, not, ◌&&◌, if◌then◌else◌, List, Option, Some, None, IfSome}
use Rattle.rcp_model.specs.declared.node.Node.{Node}
use Rattle.rcp_model.specs.Walk.{Graph, node_count, HasNoWalk, IsUnvotedCycle}
use Rattle.rcp_model.specs.Levels.{node_of, has_cycle, has_level_node}

-- there is no unvoted cycle and, where there is a limit, no unvoted walk of as many nodes
pub record IsGood (limit : Option ℕ) (g : Graph) : Type 0 where
  pub no_cycle : (nodes : List Node) → IsUnvotedCycle g nodes → ⊥
  pub no_long_walk : IfSome limit (HasNoWalk g)

-- some unvoted walk has so many nodes
abbrev pub has_walk : Graph → ℕ → Bool
has_walk g k = nat_lt 0 k && has_level_node g (k - 1)

-- good as a test
abbrev pub is_good : Option ℕ → Graph → Bool
is_good None g = not (has_cycle g)
is_good (Some k) g = not (has_cycle g) && not (has_walk g k)

-- all votes but that of one node
abbrev pub votes_without : (ℕ → ℕ → Bool) → Node → ℕ → ℕ → Bool
votes_without votes n slot cell = votes slot cell && not (slot == n.slot && cell == n.cell)

-- the graph without the vote of a node
abbrev pub without : Graph → Node → Graph
without g n = record { slots = g.slots; cells = g.cells; feeds = g.feeds; votes = votes_without g.votes n }

-- the graph without the vote of a node, where that leaves a good pattern; else as it is
abbrev pub thinned_at : Option ℕ → Graph → Node → Graph
thinned_at limit g n = if is_good limit (without g n) then without g n else g

-- after a try of each of the first so many nodes, in their order
abbrev pub thinned_after : Option ℕ → Graph → ℕ → Graph
thinned_after limit g zero = g
thinned_after limit g (suc v) = thinned_at limit (thinned_after limit g v) (node_of g v)

-- the thinned pattern: each vote is tried once, by slot and then by cell
unfoldable pub thinned : Option ℕ → Graph → Graph
thinned limit g = thinned_after limit g (node_count g)

-- a vote that can be spared: without it the pattern is good
pub record IsRedundant (limit : Option ℕ) (g : Graph) (n : Node) : Type 0 where
  pub slot_in : n.slot < g.slots
  pub cell_in : n.cell < g.cells
  pub voted : g.votes n.slot n.cell ≡ true
  pub spared : is_good limit (without g n) ≡ true
