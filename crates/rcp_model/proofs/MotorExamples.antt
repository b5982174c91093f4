-- Runs of the motor plan to the position 10, each upset in its own way. Its recovery length is 3.
-- This project's own.
use Rattle.std.proofs.Common.{◌≡◌, refl, ℕ, true, false, ℤ, pos, neg_ℤ, List, [], ◌∷◌, Some, None, Bool}
use Rattle.rcp_model.specs.FrameRows.{FrameRows, no_rows}
use Rattle.rcp_model.specs.History.{History}
use Rattle.rcp_model.specs.RowWrites.{with_down, with_slot, with_cell, with_act, with_lie_slot, with_drop, with_delay, with_lie}
use Rattle.rcp_model.specs.Messages.{arrival_of}
use Rattle.rcp_model.specs.Moments.{vote_tick}
use Rattle.rcp_model.proofs.ExampleEngines.{motor_engine, motor_engine_is}
use Rattle.rcp_model.proofs.ExamplePlans.{error_cell, sum_cell, motor_plan}
use Rattle.rcp_model.proofs.ExampleRuns.{ReplicaShown, FrameShown, Shows, shows_by, definitions, up, down, frame}

abbrev ShowsMotor : History → List FrameShown → Type 0
ShowsMotor = Shows motor_plan 3

-- a frame in which the commanded position is 10, and nothing goes wrong
abbrev quiet : FrameRows
quiet = no_rows motor_plan (pos 10 ∷ [])

abbrev minus : ℕ → ℤ
minus n = neg_ℤ (pos n)

-- a replica in this slot with this position, error and sum
abbrev motor : ℕ → ℤ → ℤ → ℤ → Bool → ReplicaShown
motor slot position error sum working = up slot (position ∷ error ∷ sum ∷ []) working

-- one that is down in the frame
abbrev motor_down : ℕ → ℤ → ℤ → ℤ → Bool → ReplicaShown
motor_down slot position error sum working = down slot (position ∷ error ∷ sum ∷ []) working

-- one that is right after each frame
abbrev right_0 : Bool → ReplicaShown
right_0 = motor 1 (pos 0) (pos 10) (pos 10)

abbrev right_1 : Bool → ReplicaShown
right_1 = motor 0 (pos 5) (pos 10) (pos 10)

abbrev right_2 : Bool → ReplicaShown
right_2 = motor 1 (pos 5) (pos 5) (pos 15)

abbrev right_3 : Bool → ReplicaShown
right_3 = motor 0 (pos 12) (pos 5) (pos 15)

abbrev right_4 : Bool → ReplicaShown
right_4 = motor 1 (pos 12) (minus 2) (pos 13)

-- the sum of replica 2 is overwritten after the first frame
abbrev corrupt : FrameRows
corrupt = with_cell quiet 2 sum_cell (minus 77)

-- it is wrong until the sum is voted, and working two frames later
one_corrupt_cell_recovers : ShowsMotor (corrupt ∷ quiet ∷ quiet ∷ quiet ∷ [])
    (frame true (Some (pos 10)) (right_0 true ∷ right_0 true ∷ motor 1 (pos 0) (pos 10) (minus 77) false ∷ [])
    ∷ frame true (Some (pos 10)) (right_1 true ∷ right_1 true ∷ motor 0 (pos 5) (pos 10) (minus 77) false ∷ [])
    ∷ frame true (Some (pos 15)) (right_2 true ∷ right_2 true ∷ right_2 false ∷ [])
    ∷ frame true (Some (pos 15)) (right_3 true ∷ right_3 true ∷ right_3 true ∷ [])
    ∷ [])
unfolding definitions
one_corrupt_cell_recovers = shows_by _ _ motor_engine _ _ motor_engine_is refl

-- with its slot overwritten too, it runs the wrong slot once more before the slot is voted
a_wrong_slot_is_voted_away : ShowsMotor (with_slot corrupt 2 0 ∷ quiet ∷ quiet ∷ quiet ∷ [])
    (frame true (Some (pos 10)) (right_0 true ∷ right_0 true ∷ motor 0 (pos 0) (pos 10) (minus 77) false ∷ [])
    ∷ frame true (Some (pos 10)) (right_1 true ∷ right_1 true ∷ motor 0 (pos 5) (pos 10) (minus 67) false ∷ [])
    ∷ frame true (Some (pos 15)) (right_2 true ∷ right_2 true ∷ right_2 false ∷ [])
    ∷ frame true (Some (pos 15)) (right_3 true ∷ right_3 true ∷ right_3 true ∷ [])
    ∷ [])
unfolding definitions
a_wrong_slot_is_voted_away = shows_by _ _ motor_engine _ _ motor_engine_is refl

-- with its slot alone overwritten, it integrates in the place of moving, and is voted right again
a_wrong_slot_spoils_the_sum : ShowsMotor (with_slot quiet 2 0 ∷ quiet ∷ quiet ∷ quiet ∷ [])
    (frame true (Some (pos 10)) (right_0 true ∷ right_0 true ∷ motor 0 (pos 0) (pos 10) (pos 10) false ∷ [])
    ∷ frame true (Some (pos 10)) (right_1 true ∷ right_1 true ∷ motor 0 (pos 5) (pos 10) (pos 20) false ∷ [])
    ∷ frame true (Some (pos 15)) (right_2 true ∷ right_2 true ∷ right_2 false ∷ [])
    ∷ frame true (Some (pos 15)) (right_3 true ∷ right_3 true ∷ right_3 true ∷ [])
    ∷ [])
unfolding definitions
a_wrong_slot_spoils_the_sum = shows_by _ _ motor_engine _ _ motor_engine_is refl

-- a wrong cell that is never voted is still there after two healthy frames
two_healthy_frames_do_not_suffice :
    ShowsMotor (quiet ∷ with_slot (with_cell quiet 2 error_cell (pos 999)) 2 1 ∷ quiet ∷ quiet ∷ quiet ∷ [])
    (frame true (Some (pos 10)) (right_0 true ∷ right_0 true ∷ right_0 true ∷ [])
    ∷ frame true (Some (pos 10)) (right_1 true ∷ right_1 true ∷ motor 1 (pos 5) (pos 999) (pos 10) false ∷ [])
    ∷ frame true (Some (pos 15)) (right_2 true ∷ right_2 true ∷ motor 1 (pos 10) (pos 999) (pos 15) false ∷ [])
    ∷ frame true (Some (pos 15)) (right_3 true ∷ right_3 true ∷ motor 0 (pos 12) (pos 999) (pos 15) false ∷ [])
    ∷ frame true (Some (pos 13)) (right_4 true ∷ right_4 true ∷ right_4 true ∷ [])
    ∷ [])
unfolding definitions
two_healthy_frames_do_not_suffice = shows_by _ _ motor_engine _ _ motor_engine_is refl

abbrev down_at_0 : ReplicaShown
down_at_0 = motor_down 1 (pos 0) (pos 10) (pos 10) false

-- two replicas that are down leave no vote, and lag by a frame
two_replicas_down : ShowsMotor (quiet ∷ with_down (with_down quiet 0) 1 ∷ quiet ∷ [])
    (frame true (Some (pos 10)) (right_0 true ∷ right_0 true ∷ right_0 true ∷ [])
    ∷ frame false None (down_at_0 ∷ down_at_0 ∷ right_1 true ∷ [])
    ∷ frame false (Some (pos 10)) (right_1 false ∷ right_1 false ∷ motor 0 (pos 5) (pos 5) (pos 15) true ∷ [])
    ∷ [])
unfolding definitions
two_replicas_down = shows_by _ _ motor_engine _ _ motor_engine_is refl

-- replica 1 lies to replica 0, which the message of replica 2 outvotes
a_lie_is_outvoted : ShowsMotor (with_lie quiet 1 0 sum_cell (pos 55) ∷ [])
    (frame true (Some (pos 10)) (right_0 true ∷ right_0 false ∷ right_0 true ∷ []) ∷ [])
unfolding definitions
a_lie_is_outvoted = shows_by _ _ motor_engine _ _ motor_engine_is refl

a_lie_about_the_slot_is_outvoted : ShowsMotor (with_lie_slot quiet 1 0 1 ∷ [])
    (frame true (Some (pos 10)) (right_0 true ∷ right_0 false ∷ right_0 true ∷ []) ∷ [])
unfolding definitions
a_lie_about_the_slot_is_outvoted = shows_by _ _ motor_engine _ _ motor_engine_is refl

a_dropped_message_is_outvoted : ShowsMotor (with_drop quiet 1 0 ∷ [])
    (frame true (Some (pos 10)) (right_0 true ∷ right_0 false ∷ right_0 true ∷ []) ∷ [])
unfolding definitions
a_dropped_message_is_outvoted = shows_by _ _ motor_engine _ _ motor_engine_is refl

-- rows give the commands of two replicas, also of the one that is down, and these two win the vote
an_act_row_commands : ShowsMotor (with_act (with_act (with_down quiet 1) 0 0 (pos 7)) 1 0 (pos 7) ∷ [])
    (frame false (Some (pos 7)) (right_0 false ∷ motor_down 0 (pos 0) (pos 0) (pos 0) false ∷ right_0 true ∷ []) ∷ [])
unfolding definitions
an_act_row_commands = shows_by _ _ motor_engine _ _ motor_engine_is refl

-- the message of replica 0 to replica 2 is late in the frame in which the sum of replica 2 is to be voted
abbrev late_by : ℤ → FrameRows
late_by ticks = with_delay quiet 0 2 ticks

-- at the tick of the vote it is heard
it_arrives_at_the_vote :
    (arrival_of motor_plan 2 (late_by (pos 10_000)) 0 2 ≡ pos 140_000)
    × (vote_tick motor_plan.timing 2 (pos 0) (pos 0) ≡ pos 140_000)
unfolding definitions
it_arrives_at_the_vote = (refl, refl)

a_message_at_the_vote_tick_counts : ShowsMotor (corrupt ∷ quiet ∷ late_by (pos 10_000) ∷ quiet ∷ [])
    (frame true (Some (pos 10)) (right_0 true ∷ right_0 true ∷ motor 1 (pos 0) (pos 10) (minus 77) false ∷ [])
    ∷ frame true (Some (pos 10)) (right_1 true ∷ right_1 true ∷ motor 0 (pos 5) (pos 10) (minus 77) false ∷ [])
    ∷ frame false (Some (pos 15)) (right_2 false ∷ right_2 true ∷ right_2 false ∷ [])
    ∷ frame false (Some (pos 15)) (right_3 false ∷ right_3 true ∷ right_3 true ∷ [])
    ∷ [])
unfolding definitions
a_message_at_the_vote_tick_counts = shows_by _ _ motor_engine _ _ motor_engine_is refl

-- a tick later it is not
a_message_one_tick_late_does_not : ShowsMotor (corrupt ∷ quiet ∷ late_by (pos 10_001) ∷ quiet ∷ [])
    (frame true (Some (pos 10)) (right_0 true ∷ right_0 true ∷ motor 1 (pos 0) (pos 10) (minus 77) false ∷ [])
    ∷ frame true (Some (pos 10)) (right_1 true ∷ right_1 true ∷ motor 0 (pos 5) (pos 10) (minus 77) false ∷ [])
    ∷ frame false (Some (pos 15)) (right_2 false ∷ right_2 true ∷ motor 1 (pos 5) (pos 5) (minus 72) false ∷ [])
    ∷ frame false (Some (pos 15)) (right_3 false ∷ right_3 true ∷ motor 0 (pos 12) (pos 5) (minus 72) true ∷ [])
    ∷ [])
unfolding definitions
a_message_one_tick_late_does_not = shows_by _ _ motor_engine _ _ motor_engine_is refl

-- nor is one that is dropped
a_dropped_message_does_not : ShowsMotor (corrupt ∷ quiet ∷ with_drop quiet 0 2 ∷ quiet ∷ [])
    (frame true (Some (pos 10)) (right_0 true ∷ right_0 true ∷ motor 1 (pos 0) (pos 10) (minus 77) false ∷ [])
    ∷ frame true (Some (pos 10)) (right_1 true ∷ right_1 true ∷ motor 0 (pos 5) (pos 10) (minus 77) false ∷ [])
    ∷ frame false (Some (pos 15)) (right_2 false ∷ right_2 true ∷ motor 1 (pos 5) (pos 5) (minus 72) false ∷ [])
    ∷ frame false (Some (pos 15)) (right_3 false ∷ right_3 true ∷ motor 0 (pos 12) (pos 5) (minus 72) true ∷ [])
    ∷ [])
unfolding definitions
a_dropped_message_does_not = shows_by _ _ motor_engine _ _ motor_engine_is refl
