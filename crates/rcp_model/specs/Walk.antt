-- Unvoted walks and cycles: how a wrong value gets from cell to cell past all votes. After NASA TM-102716.
use Rattle.std.specs.Prelude.{◌≡◌, ◌≢◌, ℕ, ◌+◌, ◌-◌, ◌*◌, ◌%◌, ◌<◌, Bool, false, List, length, slice_index_or, IsTrue}
use Rattle.rcp_model.specs.declared.node.Node.{Node}

-- which cell feeds which in each slot (the slot, the one that feeds, the one that is fed), and what each slot votes
pub record Graph : Type 0 where
  pub slots : ℕ
  pub cells : ℕ
  pub feeds : ℕ → ℕ → ℕ → Bool
  pub votes : ℕ → ℕ → Bool

-- how many nodes there are
abbrev pub node_count : Graph → ℕ
node_count g = g.slots * g.cells

-- the node is one of the graph
pub record IsNode (g : Graph) (n : Node) : Type 0 where
  pub slot_in : n.slot < g.slots
  pub cell_in : n.cell < g.cells

-- a node of the graph whose slot does not vote its cell
pub record IsUnvoted (g : Graph) (n : Node) : Type 0 where
  pub slot_in : n.slot < g.slots
  pub cell_in : n.cell < g.cells
  pub unvoted : g.votes n.slot n.cell ≡ false

-- the other node is of the next slot in turn, and there the cell of the one feeds that of the other
pub record StepsTo (g : Graph) (m n : Node) : Type 0 where
  pub turn : n.slot ≡ (m.slot + 1) % g.slots
  pub feeds : IsTrue (g.feeds n.slot m.cell n.cell)

-- what stands past the last node
abbrev pub no_node : Node
no_node = record { slot = 0; cell = 0 }

abbrev pub at : List Node → ℕ → Node
at nodes i = slice_index_or nodes i no_node

-- unvoted nodes, each of which steps to the next
pub record IsUnvotedWalk (g : Graph) (nodes : List Node) : Type 0 where
  pub unvoted : (i : ℕ) → i < length nodes → IsUnvoted g (at nodes i)
  pub steps : (i : ℕ) → i + 1 < length nodes → StepsTo g (at nodes i) (at nodes (i + 1))

-- an unvoted walk of so many nodes, at least one, ends in the node
pub record EndsWalk (g : Graph) (k : ℕ) (n : Node) : Type 0 where
  pub nodes : List Node
  pub walk : IsUnvotedWalk g nodes
  pub many : length nodes ≡ k
  pub some : 0 < k
  pub last : at nodes (k - 1) ≡ n

-- no unvoted walk has so many nodes
abbrev pub HasNoWalk : Graph → ℕ → Type 0
HasNoWalk g k = (n : Node) → EndsWalk g k n → ⊥

-- an unvoted walk of distinct nodes, the last of which steps to the first
pub record IsUnvotedCycle (g : Graph) (nodes : List Node) : Type 0 where
  pub some : 0 < length nodes
  pub walk : IsUnvotedWalk g nodes
  pub distinct : (i j : ℕ) → i < j → j < length nodes → at nodes i ≢ at nodes j
  pub closes : StepsTo g (at nodes (length nodes - 1)) (at nodes 0)
