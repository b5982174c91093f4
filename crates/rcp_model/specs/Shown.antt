-- The cycle, the recovery length and the walk that are shown of a graph, as functions that compute.
-- This project's own; that they are those of Witness and Recovery is a law.
use Rattle.std.specs.Prelude.{ℕ, ◌+◌, ◌-◌, ◌==◌, zero, suc, Bool, not, List, [], map, reverse}
use Rattle.std.specs.List.{range_with_len}
use Rattle.rcp_base.specs.Search.{first_below, lowest_below}
use Rattle.rcp_model.specs.declared.node.Node.{Node}
use Rattle.rcp_model.specs.Walk.{Graph, node_count}
use Rattle.rcp_model.specs.Levels.{number, node_before, has_level_node, least_node}

-- the most nodes of an unvoted walk, where there is no unvoted cycle
abbrev pub longest_walk : Graph → ℕ
longest_walk g = first_below (suc (node_count g)) (λ k. not (has_level_node g k))

-- the least number of nodes that no unvoted walk has
abbrev pub recovery_length : Graph → ℕ
recovery_length g = suc (longest_walk g)

-- the walk of k + 1 nodes, from its last node back
abbrev pub walk_node : Graph → ℕ → ℕ → Node
walk_node g k zero = least_node g k
walk_node g k (suc j) = node_before g (k - suc j) (walk_node g k j)

-- the first so many of them
abbrev pub walk_nodes : Graph → ℕ → ℕ → List Node
walk_nodes g k count = map (walk_node g k) (range_with_len 0 count)

-- the walk of so many nodes
abbrev pub walk_of : Graph → ℕ → List Node
walk_of g zero = []
walk_of g (suc k) = reverse (walk_nodes g k (suc k))

-- the walk that is shown beside the recovery length
abbrev pub witness_walk : Graph → List Node
witness_walk g = walk_of g (longest_walk g)

-- the least core node
abbrev pub start_node : Graph → Node
start_node g = least_node g (node_count g)

-- the least core node that steps to a core node
unfoldable pub back_node : Graph → Node → Node
back_node g n = node_before g (node_count g) n

-- the node to which so many steps back from the least core node lead
abbrev pub path : Graph → ℕ → Node
path g zero = start_node g
path g (suc k) = back_node g (path g k)

-- as many steps back as there are nodes lead to a cycle. So many more and one lead to the same node again
abbrev pub comes_again : Graph → ℕ → Bool
comes_again g more = number g (path g (suc more + node_count g)) == number g (path g (node_count g))

-- how many nodes that cycle has
abbrev pub period_of : Graph → ℕ
period_of g = suc (first_below (node_count g) (comes_again g))

-- how many more steps back lead to its least node
abbrev pub turn_of : Graph → ℕ
turn_of g = lowest_below (period_of g) (λ more. number g (path g (more + node_count g)))

-- the node to which so many steps back lead, from the one so many steps after the node reached
abbrev pub around : Graph → ℕ → ℕ → Node
around g turn back = path g (back + (turn + node_count g))

-- a cycle of so many nodes in the order of its steps, from that node on
abbrev pub cycle_nodes : Graph → ℕ → ℕ → List Node
cycle_nodes g period turn = map (λ i. around g turn (period - i)) (range_with_len 0 period)

-- the cycle that is shown
abbrev pub witness_cycle : Graph → List Node
witness_cycle g = cycle_nodes g (period_of g) (turn_of g)
