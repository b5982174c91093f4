-- A graph of two slots and two cells: the first slot copies the first cell to the second, and the other leaves both alone.
-- This project's own.
use Rattle.std.proofs.Common.{◌≡◌, refl, None, Some, ℕ, ◌==◌, true, false, Bool, [], ◌∷◌}
use Rattle.std.specs.Prelude.{◌&&◌, if◌then◌else◌}
use Rattle.rcp_model.specs.declared.node.Node.{Node}
use Rattle.rcp_model.specs.Walk.{Graph}
use Rattle.rcp_model.specs.Levels.{level, has_cycle}
use Rattle.rcp_model.specs.Shown.{recovery_length, witness_walk, witness_cycle, back_node}
use Rattle.rcp_model.specs.Thinning.{thinned}
use Rattle.rcp_model.specs.PlanGraph.{voted_at}

abbrev pub node : ℕ → ℕ → Node
node slot cell = record { slot = slot; cell = cell }

abbrev pub copies : ℕ → ℕ → ℕ → Bool
copies slot from to = if slot == 0 then from == 0 else from == to

abbrev pub voting : (ℕ → ℕ → Bool) → Graph
voting votes = record { slots = 2; cells = 2; feeds = copies; votes = votes }

abbrev pub nothing : ℕ → ℕ → Bool
nothing slot cell = false

-- the first cell in the second slot
abbrev pub one_vote : ℕ → ℕ → Bool
one_vote slot cell = slot == 1 && cell == 0

abbrev everything : ℕ → ℕ → Bool
everything slot cell = true

-- without a vote a wrong first cell stays wrong
a_cycle_is_shown_from_its_least_node : witness_cycle (voting nothing) ≡ node 0 0 ∷ node 1 0 ∷ []
unfolding level back_node
a_cycle_is_shown_from_its_least_node = refl

one_vote_recovers : recovery_length (voting one_vote) ≡ 3
unfolding level
one_vote_recovers = refl

its_walk_is_of_the_copy : witness_walk (voting one_vote) ≡ node 0 1 ∷ node 1 1 ∷ []
unfolding level
its_walk_is_of_the_copy = refl

it_has_no_cycle : has_cycle (voting one_vote) ≡ false
unfolding level
it_has_no_cycle = refl

-- of all four votes that one is kept, although it is not tried first
thinning_clears_the_first_slot : voted_at (thinned None (voting everything)) 0 ≡ []
unfolding level thinned voted_at
thinning_clears_the_first_slot = refl

thinning_keeps_one_vote : voted_at (thinned None (voting everything)) 1 ≡ 0 ∷ []
unfolding level thinned voted_at
thinning_keeps_one_vote = refl

-- under a limit of two, the second slot's votes of both cells stay: a walk of one node is the longest that may be left
a_limit_keeps_more_votes : voted_at (thinned (Some 2) (voting everything)) 1 ≡ 0 ∷ 1 ∷ []
unfolding level thinned voted_at
a_limit_keeps_more_votes = refl

the_first_slot_is_cleared_still : voted_at (thinned (Some 2) (voting everything)) 0 ≡ []
unfolding level thinned voted_at
the_first_slot_is_cleared_still = refl

-- and what is over its limit is left as it is
over_the_limit_nothing_is_cleared : voted_at (thinned (Some 2) (voting one_vote)) 1 ≡ 0 ∷ []
unfolding level thinned voted_at
over_the_limit_nothing_is_cleared = refl
