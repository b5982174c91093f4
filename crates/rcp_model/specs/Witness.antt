-- Which of the unvoted cycles and walks are shown. After NASA TM-102716; the choice is this project's own.
use Rattle.std.specs.Prelude.{◌≡◌, ◌≢◌, ℕ, ◌+◌, ◌-◌, ◌<◌, zero, suc, List, length}
use Rattle.rcp_model.specs.declared.node.Node.{Node}
use Rattle.rcp_model.specs.Node.{IsUpTo, IsLeast}
use Rattle.rcp_model.specs.Walk.{Graph, node_count, StepsTo, at, EndsWalk, IsUnvotedCycle}

-- a node that ends an unvoted walk of more nodes than there are
abbrev pub IsCore : Graph → Node → Type 0
IsCore g n = EndsWalk g (node_count g + 1) n

-- the least core node that steps to the node
abbrev pub IsBack : Graph → Node → Node → Type 0
IsBack g n back = IsLeast (λ m. IsCore g m × StepsTo g m n) back

-- the node to which so many steps back from the least core node lead
abbrev pub IsReached : Graph → ℕ → Node → Type 0
IsReached g zero n = IsLeast (IsCore g) n
IsReached g (suc k) n = (m : Node) × IsReached g k m × IsBack g m n

-- the cycle of steps back to which as many of them as there are nodes lead, from its least node on
pub record IsWitnessCycle (g : Graph) (nodes : List Node) : Type 0 where
  pub some : 0 < length nodes
  pub reached : (i : ℕ) × (i < length nodes) × IsReached g (node_count g) (at nodes i)
  pub backs : (i : ℕ) → i + 1 < length nodes → IsBack g (at nodes (i + 1)) (at nodes i)
  pub closes : IsBack g (at nodes 0) (at nodes (length nodes - 1))
  pub distinct : (i j : ℕ) → i < j → j < length nodes → at nodes i ≢ at nodes j
  pub begins : (i : ℕ) → i < length nodes → IsUpTo (at nodes 0) (at nodes i)

-- an unvoted cycle: the one that is shown
pub record IsShownCycle (g : Graph) (nodes : List Node) : Type 0 where
  pub cycle : IsUnvotedCycle g nodes
  pub witness : IsWitnessCycle g nodes

-- its last node is the least that ends an unvoted walk of as many nodes, and each before it is the least that
-- steps to the one after it and ends an unvoted walk of as many nodes as are left
pub record IsWitnessWalk (g : Graph) (nodes : List Node) : Type 0 where
  pub last : 0 < length nodes → IsLeast (EndsWalk g (length nodes)) (at nodes (length nodes - 1))
  pub earlier :
      (i : ℕ) → i + 1 < length nodes
      → IsLeast (λ m. EndsWalk g (i + 1) m × StepsTo g m (at nodes (i + 1))) (at nodes i)

-- and it has so many nodes
pub record IsWitnessWalkOf (g : Graph) (k : ℕ) (nodes : List Node) : Type 0 where
  pub long : length nodes ≡ k
  pub walk : IsWitnessWalk g nodes
