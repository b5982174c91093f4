-- What is reached from a node through unvoted nodes, step by step. This project's own.
use Rattle.std.specs.Prelude.{◌≡◌, ℕ, ◌+◌, ◌-◌, ◌<◌, ◌≤◌, zero, suc, Bool, ◌&&◌, nat_lt, nat_le, if◌then◌else◌, Option, Some, None, IsTrue}
use Rattle.rcp_base.specs.Bits.{has_bit}
use Rattle.rcp_base.specs.Search.{any_below}
use Rattle.rcp_model.specs.declared.node.Node.{Node}
use Rattle.rcp_model.specs.Walk.{Graph, IsUnvoted, StepsTo}
use Rattle.rcp_model.specs.Levels.{is_unvoted, level}
use Rattle.rcp_model.specs.Node.{make_node}

-- so many steps, each to an unvoted node, lead from the one node to the other
abbrev pub Reaches : Graph → ℕ → Node → Node → Type 0
Reaches g zero m n = n ≡ m
Reaches g (suc k) m n = (last : Node) × Reaches g k m last × StepsTo g last n × IsUnvoted g n

-- some steps lead from the node back to it
abbrev pub ComesBack : Graph → Node → Type 0
ComesBack g n = (k : ℕ) × (0 < k) × Reaches g k n n

-- of walks from the node that have no more steps than the most, one of so many is a longest
pub record IsFarthest (g : Graph) (n : Node) (most steps : ℕ) : Type 0 where
  pub within : steps ≤ most
  pub reached : (last : Node) × Reaches g steps n last
  pub ends : steps < most → (last : Node) → Reaches g (suc steps) n last → ⊥

-- the node is on an unvoted walk of so many steps: some lead to it, and the others lead on
pub record IsOnWalk (g : Graph) (steps : ℕ) (n : Node) : Type 0 where
  pub into : ℕ
  pub onward : ℕ
  pub all : into + onward ≡ steps
  pub ends : IsTrue (level g into n)
  pub last : Node
  pub leads : Reaches g onward n last

-- the least number of steps that no unvoted walk of a good pattern has, by the limit and the number of nodes
abbrev pub step_limit : Option ℕ → ℕ → ℕ
step_limit None count = count
step_limit (Some k) count = if nat_lt 0 k && nat_le k count then k - 1 else count

-- the cell feeds a cell of the word in the slot, one of the first so many
abbrev pub feeds_below : ℕ → Graph → ℕ → ℕ → ℕ → Bool
feeds_below count g word slot cell = any_below count (λ to. has_bit word to && g.feeds slot cell to)

-- the bits of the previous word are the cells that are unvoted in the slot before and feed a cell of the word
abbrev pub ArePrevious : Graph → ℕ → ℕ → ℕ → ℕ → Type 0
ArePrevious g word before slot previous =
    (cell : ℕ) → has_bit previous cell ≡ (is_unvoted g (make_node before cell) && feeds_below g.cells g word slot cell)
