-- After how many nodes an unvoted walk ends at the latest. After NASA TM-102716.
use Rattle.std.specs.Prelude.{◌≡◌, ℕ, ◌+◌, ◌<◌, List, length}
use Rattle.rcp_model.specs.declared.node.Node.{Node}
use Rattle.rcp_model.specs.Walk.{Graph, EndsWalk, HasNoWalk, IsUnvotedCycle}
use Rattle.rcp_model.specs.Witness.{IsWitnessWalk}

-- the least number of nodes, at least one, that no unvoted walk has
pub record IsRecoveryLength (g : Graph) (k : ℕ) : Type 0 where
  pub some : 0 < k
  pub none : HasNoWalk g k
  pub fewer : (j : ℕ) → 0 < j → j < k → (n : Node) × EndsWalk g j n

-- no unvoted cycle: the least number of nodes that no unvoted walk has, and the walk of one node fewer
pub record IsRecovery (g : Graph) (k : ℕ) (nodes : List Node) : Type 0 where
  pub no_cycle : (nodes : List Node) → IsUnvotedCycle g nodes → ⊥
  pub least : IsRecoveryLength g k
  pub one_more : length nodes + 1 ≡ k
  pub walk : IsWitnessWalk g nodes
