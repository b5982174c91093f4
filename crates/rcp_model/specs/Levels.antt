-- Unvoted walks as tests that compute: which nodes end one of k + 1 nodes. This project's own.
use Rattle.std.specs.Prelude.{ℕ, ◌+◌, ◌*◌, ◌/◌, ◌%◌, ◌==◌, nat_lt, zero, suc, Bool, not, ◌&&◌}
use Rattle.rcp_base.specs.Search.{any_below, first_below}
use Rattle.rcp_model.specs.declared.node.Node.{Node}
use Rattle.rcp_model.specs.Walk.{Graph, node_count}

-- the number of a node, in the order of nodes
abbrev pub number : Graph → Node → ℕ
number g n = n.slot * g.cells + n.cell

-- the node of a number
abbrev pub node_of : Graph → ℕ → Node
node_of g v = record { slot = v / g.cells; cell = v % g.cells }

-- the node is one of the graph, and its slot does not vote its cell
abbrev pub is_unvoted : Graph → Node → Bool
is_unvoted g n = nat_lt n.slot g.slots && (nat_lt n.cell g.cells && not (g.votes n.slot n.cell))

-- the one node steps to the other
abbrev pub steps_to : Graph → Node → Node → Bool
steps_to g m n = (n.slot == (m.slot + 1) % g.slots) && g.feeds n.slot m.cell n.cell

-- the node ends an unvoted walk of k + 1 nodes
unfoldable pub level : Graph → ℕ → Node → Bool
level g zero n = is_unvoted g n
level g (suc k) n =
    is_unvoted g n && any_below (node_count g) (λ v. steps_to g (node_of g v) n && level g k (node_of g v))

-- the node of this number steps to the node and ends an unvoted walk of k + 1 nodes
abbrev pub goes : Graph → ℕ → Node → ℕ → Bool
goes g k n v = steps_to g (node_of g v) n && level g k (node_of g v)

-- the least node that does
abbrev pub node_before : Graph → ℕ → Node → Node
node_before g k n = node_of g (first_below (node_count g) (goes g k n))

-- some node ends an unvoted walk of k + 1 nodes
abbrev pub has_level_node : Graph → ℕ → Bool
has_level_node g k = any_below (node_count g) (λ v. level g k (node_of g v))

-- the least node that does
abbrev pub least_node : Graph → ℕ → Node
least_node g k = node_of g (first_below (node_count g) (λ v. level g k (node_of g v)))

-- the node ends an unvoted walk of more nodes than there are
abbrev pub is_core : Graph → Node → Bool
is_core g n = level g (node_count g) n

-- there is an unvoted cycle: an unvoted walk of more nodes than there are
abbrev pub has_cycle : Graph → Bool
has_cycle g = has_level_node g (node_count g)
