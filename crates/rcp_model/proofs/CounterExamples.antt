-- Runs of the counter plan. Its recovery length is 1.
-- This project's own.
use Rattle.std.proofs.Common.{◌≡◌, ℕ, refl, true, false, Bool, ℤ, pos, [], ◌∷◌, Some, None}
use Rattle.rcp_model.specs.declared.plan.PlanParts.{PlanParts}
use Rattle.rcp_model.specs.FrameRows.{FrameRows, no_rows}
use Rattle.rcp_model.specs.History.{History}
use Rattle.rcp_model.specs.RowWrites.{with_down, with_cell, with_delay, with_lie}
use Rattle.rcp_model.specs.Messages.{arrival_of}
use Rattle.rcp_model.specs.Moments.{begin_tick}
use Rattle.rcp_model.proofs.ExampleEngines.{counter_engine, counter_engine_is}
use Rattle.rcp_model.proofs.ExamplePlans.{number_cell, counter_plan_of, counter_plan_voting, counter_plan}
use Rattle.rcp_model.proofs.ExampleRuns.{ReplicaShown, Shows, shows_by, definitions, up, down, frame}

-- a replica with this number, in the one slot
abbrev counter : ℤ → Bool → ReplicaShown
counter n working = up 0 (n ∷ []) working

-- a frame in which nothing goes wrong
abbrev quiet : PlanParts → FrameRows
quiet plan = no_rows plan []

abbrev two_replicas : PlanParts
two_replicas = counter_plan_of 2

-- two replicas that differ have no majority: each keeps its own, and neither commands
a_tie_votes_none : Shows two_replicas 1 (with_cell (quiet two_replicas) 1 number_cell (pos 5) ∷ quiet two_replicas ∷ [])
    (frame false (Some (pos 1)) (counter (pos 1) true ∷ counter (pos 5) false ∷ [])
    ∷ frame false None (counter (pos 2) true ∷ counter (pos 6) true ∷ [])
    ∷ [])
unfolding definitions
a_tie_votes_none = shows_by _ _ counter_engine _ _ (counter_engine_is [] 2) refl

-- the message of replica 0 to replica 2 is late
abbrev late_to_2 : ℤ → FrameRows
late_to_2 ticks = with_delay (quiet counter_plan) 0 2 ticks

-- in the next frame replica 0 is down, and replica 1 lies to replica 2
abbrev stale_by : ℤ → History
stale_by ticks = late_to_2 ticks ∷ with_lie (with_down (quiet counter_plan) 0) 1 2 number_cell (pos 1) ∷ []

-- where the message arrives as replica 2 begins that frame, it is heard there, and the lie has a majority
it_arrives_at_the_begin :
    (arrival_of counter_plan 0 (late_to_2 (pos 20_000)) 0 2 ≡ pos 50_000)
    × (begin_tick counter_plan.timing 1 (pos 0) ≡ pos 50_000)
unfolding definitions
it_arrives_at_the_begin = (refl, refl)

a_stale_message_meets_the_next_frame : Shows counter_plan 1 (stale_by (pos 20_000))
    (frame true (Some (pos 1)) (counter (pos 1) false ∷ counter (pos 1) true ∷ counter (pos 1) true ∷ [])
    ∷ frame false None (down 0 (pos 1 ∷ []) false ∷ counter (pos 2) false ∷ counter (pos 1) true ∷ [])
    ∷ [])
unfolding definitions
a_stale_message_meets_the_next_frame = shows_by _ _ counter_engine _ _ (counter_engine_is [] 3) refl

-- a tick sooner it is in no frame, and replica 2 keeps its own
a_tick_sooner_it_is_not_heard : Shows counter_plan 1 (stale_by (pos 19_999))
    (frame true (Some (pos 1)) (counter (pos 1) false ∷ counter (pos 1) true ∷ counter (pos 1) true ∷ [])
    ∷ frame false (Some (pos 2)) (down 0 (pos 1 ∷ []) false ∷ counter (pos 2) false ∷ counter (pos 2) true ∷ [])
    ∷ [])
unfolding definitions
a_tick_sooner_it_is_not_heard = shows_by _ _ counter_engine _ _ (counter_engine_is [] 3) refl

-- where replica 0 is up in the next frame, its new message is heard in the place of the late one
a_new_message_goes_before_a_late_one :
    Shows counter_plan 1 (late_to_2 (pos 20_000) ∷ with_lie (quiet counter_plan) 1 2 number_cell (pos 1) ∷ [])
    (frame true (Some (pos 1)) (counter (pos 1) false ∷ counter (pos 1) true ∷ counter (pos 1) true ∷ [])
    ∷ frame false (Some (pos 2)) (counter (pos 2) true ∷ counter (pos 2) false ∷ counter (pos 2) true ∷ [])
    ∷ [])
unfolding definitions
a_new_message_goes_before_a_late_one = shows_by _ _ counter_engine _ _ (counter_engine_is [] 3) refl

-- a guard that has failed once holds in no later frame, though all are healthy again
the_guard_stays_broken :
    Shows counter_plan 1 (with_down (with_down (quiet counter_plan) 0) 1 ∷ quiet counter_plan ∷ quiet counter_plan ∷ [])
    (frame false None (down 0 (pos 0 ∷ []) false ∷ down 0 (pos 0 ∷ []) false ∷ counter (pos 1) true ∷ [])
    ∷ frame false (Some (pos 1)) (counter (pos 1) true ∷ counter (pos 1) true ∷ counter (pos 1) true ∷ [])
    ∷ frame false (Some (pos 2)) (counter (pos 2) true ∷ counter (pos 2) true ∷ counter (pos 2) true ∷ [])
    ∷ [])
unfolding definitions
the_guard_stays_broken = shows_by _ _ counter_engine _ _ (counter_engine_is [] 3) refl

-- the same plans with the number voted by the median
abbrev median_plan : ℕ → PlanParts
median_plan replicas = counter_plan_voting (number_cell ∷ []) replicas

-- two replicas that differ take the lower of their two values
a_tie_takes_the_lower_middle : Shows (median_plan 2) 1 (with_cell (quiet (median_plan 2)) 1 number_cell (pos 5) ∷ quiet (median_plan 2) ∷ [])
    (frame false (Some (pos 1)) (counter (pos 1) true ∷ counter (pos 5) false ∷ [])
    ∷ frame false (Some (pos 2)) (counter (pos 2) true ∷ counter (pos 2) true ∷ [])
    ∷ [])
unfolding definitions
a_tie_takes_the_lower_middle = shows_by _ _ counter_engine _ _ (counter_engine_is (number_cell ∷ []) 2) refl

-- three that all differ take the one in the middle, also where that is not the single processor's
three_values_take_the_middle :
    Shows (median_plan 3) 1
    (with_cell (with_cell (quiet (median_plan 3)) 0 number_cell (pos 4)) 1 number_cell (pos 8) ∷ quiet (median_plan 3) ∷ [])
    (frame false (Some (pos 1)) (counter (pos 4) false ∷ counter (pos 8) false ∷ counter (pos 1) true ∷ [])
    ∷ frame false (Some (pos 5)) (counter (pos 5) true ∷ counter (pos 5) true ∷ counter (pos 5) true ∷ [])
    ∷ [])
unfolding definitions
three_values_take_the_middle = shows_by _ _ counter_engine _ _ (counter_engine_is (number_cell ∷ []) 3) refl
