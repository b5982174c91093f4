-- The order of nodes. After NASA TM-102716; the words are this project's own.
use Rattle.std.specs.Prelude.{ℕ, IsTrue}
use Rattle.std.specs.declared.cmp.Ordering.{Ordering}
use Rattle.std.specs.Ordering.{nat_cmp, ordering_then, is_le}
use Rattle.rcp_model.specs.declared.node.Node.{Node}

-- the node of a slot and a cell
abbrev pub make_node : ℕ → ℕ → Node
make_node slot cell = record { slot = slot; cell = cell }

-- by slot, then by cell
abbrev pub node_cmp : Node → Node → Ordering
node_cmp one other = ordering_then (nat_cmp one.slot other.slot) (nat_cmp one.cell other.cell)

-- the one is the other or stands before it
abbrev pub IsUpTo : Node → Node → Type 0
IsUpTo one other = IsTrue (is_le (node_cmp one other))

-- the first node that has a property
pub record IsLeast (P : Node → Type 0) (n : Node) : Type 0 where
  pub has : P n
  pub first : (m : Node) → P m → IsUpTo n m
