-- What follows from the definitions of unvoted walks, for all graphs. This project's own.
use Rattle.std.specs.Prelude.{◌≡◌, ◌↔◌, ℕ, ◌+◌, IsTrue, List, length}
use Rattle.rcp_model.specs.declared.node.Node.{Node}
use Rattle.rcp_model.specs.Walk.{Graph, IsUnvotedCycle, EndsWalk, node_count}
use Rattle.rcp_model.specs.Levels.{has_cycle}
use Rattle.rcp_model.specs.Recovery.{IsRecoveryLength}
use Rattle.rcp_model.specs.Witness.{IsWitnessCycle, IsWitnessWalk}

-- there is an unvoted cycle
abbrev pub HasUnvotedCycle : Graph → Type 0
HasUnvotedCycle g = (nodes : List Node) × IsUnvotedCycle g nodes

-- there is one exactly where there is an unvoted walk of one node more than there are nodes
abbrev pub CycleIffLongWalk : Type 0
CycleIffLongWalk = (g : Graph) → HasUnvotedCycle g ↔ ((n : Node) × EndsWalk g (node_count g + 1) n)

-- the test says so exactly where there is one
abbrev pub TheTestFindsCycles : Type 0
TheTestFindsCycles = (g : Graph) → IsTrue (has_cycle g) ↔ HasUnvotedCycle g

-- the cycle that is shown is an unvoted cycle
abbrev pub TheWitnessIsACycle : Type 0
TheWitnessIsACycle = (g : Graph) (nodes : List Node) → IsWitnessCycle g nodes → IsUnvotedCycle g nodes

-- a graph has one such cycle, and one such walk of each number of nodes
pub record HasOneWitness (g : Graph) : Type 0 where
  pub cycle : (one other : List Node) → IsWitnessCycle g one → IsWitnessCycle g other → one ≡ other
  pub walk :
      (one other : List Node) → IsWitnessWalk g one → IsWitnessWalk g other → length one ≡ length other
      → one ≡ other

-- so does each
abbrev pub EachWitnessIsUnique : Type 0
EachWitnessIsUnique = (g : Graph) → HasOneWitness g

-- a graph has one recovery length
abbrev pub TheRecoveryLengthIsOne : Type 0
TheRecoveryLengthIsOne =
    (g : Graph) (one other : ℕ) → IsRecoveryLength g one → IsRecoveryLength g other → one ≡ other
