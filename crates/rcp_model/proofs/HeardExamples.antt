-- What the replicas of the motor plan hear of each other in the first frame, their own messages among it.
-- This project's own.
use Rattle.std.proofs.Common.{◌≡◌, refl, sym, ap, ◌∙◌, ℕ, ℤ, pos, List, [], ◌∷◌, Option, Some, None}
use Rattle.std.specs.Option.{option_and_then}
use Rattle.rcp_base.specs.Message.{Content}
use Rattle.rcp_base.specs.Tables.{table}
use Rattle.rcp_model.specs.FrameRows.{FrameRows, no_rows}
use Rattle.rcp_model.specs.RowWrites.{with_down, with_drop, with_lie, with_lie_slot}
use Rattle.rcp_model.specs.System.{SystemState, state_after}
use Rattle.rcp_model.proofs.ComputedRuns.{state_by, state_by_own}
use Rattle.rcp_model.proofs.ExampleEngines.{motor_engine, motor_engine_is}
use Rattle.rcp_model.proofs.ExamplePlans.{error_cell, sum_cell, motor_plan}
use Rattle.rcp_model.proofs.ExampleRuns.{definitions}

-- what a receiver heard of each sender
abbrev heard_by : (List FrameRows → SystemState) → List FrameRows → ℕ → List (Option Content)
heard_by states past receiver = table 3 (λ sender. option_and_then (λ ballot. ballot.heard sender) ((states past).ballots receiver))

-- after these frames a receiver has heard this of each sender
record Hears (past : List FrameRows) (receiver : ℕ) (expected : List (Option Content)) : Type 0 where
  heard : heard_by (state_after motor_plan) past receiver ≡ expected

-- so it is where the system over functions in the place of expressions hears it
hears_by : (past : List FrameRows) (receiver : ℕ) (expected : List (Option Content))
    → heard_by (state_by motor_engine motor_plan) past receiver ≡ expected → Hears past receiver expected
hears_by past receiver expected is = record {
  heard =
      ap (λ states. heard_by states past receiver) (sym (λ i earlier. state_by_own motor_plan earlier i))
      ∙ (ap (λ e. heard_by (state_by e motor_plan) past receiver) motor_engine_is ∙ is);
}

abbrev quiet : FrameRows
quiet = no_rows motor_plan (pos 10 ∷ [])

-- in the first slot the sum is voted, and each replica computes 10
abbrev says : ℕ → Option ℤ → Option ℤ → Content
says slot error sum = record { slot = slot; values = None ∷ error ∷ sum ∷ [] }

abbrev right : Option Content
right = Some (says 0 None (Some (pos 10)))

each_hears_all : Hears (quiet ∷ []) 1 (right ∷ right ∷ right ∷ [])
unfolding definitions
each_hears_all = hears_by _ _ _ refl

-- of one that is down nothing is heard, and one that is down hears nothing
none_hears_one_that_is_down : Hears (with_down quiet 0 ∷ []) 1 (None ∷ right ∷ right ∷ [])
unfolding definitions
none_hears_one_that_is_down = hears_by _ _ _ refl

one_that_is_down_hears_nothing : Hears (with_down quiet 0 ∷ []) 0 (None ∷ None ∷ None ∷ [])
unfolding definitions
one_that_is_down_hears_nothing = hears_by _ _ _ refl

a_dropped_message_is_not_heard : Hears (with_drop quiet 2 1 ∷ []) 1 (right ∷ right ∷ None ∷ [])
unfolding definitions
a_dropped_message_is_not_heard = hears_by _ _ _ refl

-- a lie sets the value that the message has, or adds one that it has not
a_lie_sets_a_value : Hears (with_lie quiet 2 1 sum_cell (pos 7) ∷ []) 1 (right ∷ right ∷ Some (says 0 None (Some (pos 7))) ∷ [])
unfolding definitions
a_lie_sets_a_value = hears_by _ _ _ refl

a_lie_adds_a_value :
    Hears (with_lie quiet 2 1 error_cell (pos 7) ∷ []) 1 (right ∷ right ∷ Some (says 0 (Some (pos 7)) (Some (pos 10))) ∷ [])
unfolding definitions
a_lie_adds_a_value = hears_by _ _ _ refl

-- a lie about the slot changes the slot alone
a_lie_about_the_slot : Hears (with_lie_slot quiet 2 1 1 ∷ []) 1 (right ∷ right ∷ Some (says 1 None (Some (pos 10))) ∷ [])
unfolding definitions
a_lie_about_the_slot = hears_by _ _ _ refl

-- and no other receiver hears it
the_others_hear_no_lie : Hears (with_lie_slot quiet 2 1 1 ∷ []) 0 (right ∷ right ∷ right ∷ [])
unfolding definitions
the_others_hear_no_lie = hears_by _ _ _ refl
