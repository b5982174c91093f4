-- Levels as words: which cells of each slot end an unvoted walk of so many nodes. This project's own.
use Rattle.std.specs.Prelude.{ℕ, ◌+◌, ◌-◌, ◌<◌, ◌≡◌, ◌==◌, Bool, false, IsTrue, ◌&&◌, List, get_or, Option, MatchOption, if◌then◌else◌}
use Rattle.rcp_base.specs.Bits.{has_bit}
use Rattle.rcp_model.specs.declared.node.Node.{Node}
use Rattle.rcp_model.specs.Node.{make_node}
use Rattle.rcp_model.specs.Walk.{Graph, node_count}
use Rattle.rcp_model.specs.Levels.{level, has_level_node, has_cycle}
use Rattle.rcp_model.specs.Shown.{walk_node}
use Rattle.task_graph.specs.Rows.{Rows}
use Rattle.vote_pattern.specs.Votes.{Votes}
use Rattle.recovery_analysis.specs.Graphs.{graph_of}

-- the slot before, in turn
abbrev pub slot_before : Graph → ℕ → ℕ
slot_before g s = if s == 0 then g.slots - 1 else s - 1

-- the cell at the slot before feeds the node, and ends an unvoted walk of k + 1 nodes there
abbrev pub enters : Graph → ℕ → Node → ℕ → Bool
enters g k n d = g.feeds n.slot d n.cell && level g k (make_node (slot_before g n.slot) d)

-- by slot, the bits of these words are the cells that end an unvoted walk of k + 1 nodes there
abbrev pub IsLevel : Graph → ℕ → List ℕ → Type 0
IsLevel g k words = (s c : ℕ) → s < g.slots → has_bit (get_or words s 0) c ≡ level g k (make_node s c)

-- the level after another
abbrev pub IsLevelAfter : Graph → List ℕ → List ℕ → Type 0
IsLevelAfter g words next = (k : ℕ) → IsLevel g k words → IsLevel g (k + 1) next

-- the least node that ends an unvoted walk of k + 1 nodes
pub record IsLeastAt (g : Graph) (k : ℕ) (n : Node) : Type 0 where
  pub some : IsTrue (has_level_node g k)
  pub is : n ≡ walk_node g k 0

-- what a search for it answers
abbrev pub AnswersLeast : Graph → ℕ → Option Node → Type 0
AnswersLeast g k answer = MatchOption answer (has_level_node g k ≡ false) (IsLeastAt g k)

-- a search through the words of so many slots answers so, for each level that they are
abbrev pub FindsLeast : ℕ → List ℕ → Option Node → Type 0
FindsLeast slots words answer = (g : Graph) (k : ℕ) → g.slots ≡ slots → IsLevel g k words → AnswersLeast g k answer

-- rows and votes, and how many of their levels are there
pub record Levels : Type 0 where
  pub rows : Rows
  pub votes : Votes
  pub count : ℕ

-- the graph whose levels they are
abbrev pub graph_in : Levels → Graph
graph_in levels = graph_of levels.rows levels.votes

-- the levels up to that of the core are there, and there is an unvoted cycle
pub record HaveCycle (levels : Levels) : Type 0 where
  pub full : node_count (graph_in levels) < levels.count
  pub some : IsTrue (has_cycle (graph_in levels))
