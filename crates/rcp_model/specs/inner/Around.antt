-- The cycle on which the path back ends, as it is found. This project's own.
use Rattle.std.specs.Prelude.{◌≡◌, ◌≢◌, ℕ, ◌+◌, ◌<◌, ◌≤◌}
use Rattle.rcp_model.specs.declared.node.Node.{Node}
use Rattle.rcp_model.specs.Walk.{Graph, node_count}
use Rattle.rcp_model.specs.Levels.{number}
use Rattle.rcp_model.specs.Shown.{path, period_of}

-- after so many steps back from the node reached, and not before, that node comes again
pub record IsPeriod (g : Graph) (p : ℕ) : Type 0 where
  pub some : 0 < p
  pub within : p ≤ node_count g
  pub returns : path g (p + node_count g) ≡ path g (node_count g)
  pub first : (q : ℕ) → 0 < q → q < p → path g (q + node_count g) ≢ path g (node_count g)

-- the place on the path, from the node reached on, at which the least node of its cycle stands
pub record IsLeastPlace (g : Graph) (p s : ℕ) : Type 0 where
  pub below : s < p
  pub least : (t : ℕ) → t < p → number g (path g (s + node_count g)) ≤ number g (path g (t + node_count g))

-- the least node of the cycle on which the path ends
pub record IsLeastAround (g : Graph) (least : Node) : Type 0 where
  pub s : ℕ
  pub place : IsLeastPlace g (period_of g) s
  pub is : least ≡ path g (s + node_count g)
