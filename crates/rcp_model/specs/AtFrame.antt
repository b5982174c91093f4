-- A history as a reader counts it: frames from 0, and states by how many frames are done.
-- That these words and the lists with the newest frame first say the same is a law. This project's own.
use Rattle.std.specs.Prelude.{ℕ, suc, ◌+◌, ◌*◌, ◌<◌, nat_lt, Bool, ◌||◌, ℤ, pos, [], slice_index_or, count_by, Option}
use Rattle.std.specs.List.{range_with_len}
use Rattle.rcp_base.specs.Search.{all_below}
use Rattle.rcp_model.specs.declared.plan.PlanParts.{PlanParts}
use Rattle.rcp_model.specs.FrameRows.{FrameRows, quiet_rows}
use Rattle.rcp_model.specs.Health.{is_healthy}
use Rattle.rcp_model.specs.History.{History, past_of, sensors_of}
use Rattle.rcp_model.specs.Slot.{actuator_at, actuator_value}
use Rattle.rcp_model.specs.System.{actuator_vote, SystemState, state_after}
use Rattle.rcp_model.specs.Uniprocessor.{ProcessorState, ideal_state}

-- the rows of a frame, and none past the last
abbrev pub rows_at : History → ℕ → FrameRows
rows_at history frame = slice_index_or history frame (quiet_rows 0 0 0 (pos 0) [])

-- what the single processor holds after the first so many frames
abbrev pub ideal_after : PlanParts → History → ℕ → ProcessorState
ideal_after plan history frames = ideal_state plan (sensors_of (past_of history frames))

-- the replicated system after them
abbrev pub system_after : PlanParts → History → ℕ → SystemState
system_after plan history frames = state_after plan (past_of history frames)

-- what the single processor commands an actuator in a frame
abbrev pub ideal_command_at : PlanParts → History → ℕ → ℕ → ℤ
ideal_command_at plan history frame actuator =
    actuator_value (actuator_at plan actuator)
    (rows_at history frame).sensors (ideal_after plan history (suc frame)).cells

-- what the replicas vote for an actuator in a frame
abbrev pub vote_at : PlanParts → History → ℕ → ℕ → Option ℤ
vote_at plan history frame actuator = actuator_vote plan (system_after plan history (suc frame)) actuator

-- the replica is healthy in each frame that is among the last so many of these frames
abbrev pub is_healthy_in : PlanParts → History → ℕ → ℕ → ℕ → Bool
is_healthy_in plan history last frames replica =
    all_below frames (λ frame. nat_lt (frame + last) frames || is_healthy plan (rows_at history frame) replica)

-- it is working at a frame: healthy in as many frames up to it as the recovery length, as far as there are so many
abbrev pub is_working_at : PlanParts → ℕ → History → ℕ → ℕ → Bool
is_working_at plan recovery history frame replica = is_healthy_in plan history recovery (suc frame) replica

-- more than half of the replicas are healthy through a frame and for the recovery length before it
abbrev pub HasHealthyMajorityAt : PlanParts → ℕ → History → ℕ → Type 0
HasHealthyMajorityAt plan recovery history frame =
    plan.replicas < 2 * count_by (is_healthy_in plan history (suc recovery) (suc frame)) (range_with_len 0 plan.replicas)

-- the guard at a frame: so it is in that frame and in each before it
abbrev pub MeetsGuardAt : PlanParts → ℕ → History → ℕ → Type 0
MeetsGuardAt plan recovery history frame = (earlier : ℕ) → earlier < suc frame → HasHealthyMajorityAt plan recovery history earlier
