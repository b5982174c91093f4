-- `replay FILE JOURNAL`: the run of the replicated system, frame by frame.
-- After NASA TM-102716; the text is this project's own.
use Rattle.std.specs.Prelude.{ℕ, suc, ◌*◌, nat_lt, Bool, true, ◌&&◌, List, [], ◌∷◌, ◌++◌, length, flat_map}
use Rattle.std.specs.List.{range_with_len}
use Rattle.rcp_model.specs.declared.plan.PlanParts.{PlanParts}
use Rattle.rcp_model.specs.FrameRows.{FrameRows, is_down}
use Rattle.rcp_model.specs.Health.{healthy_count, is_working}
use Rattle.rcp_model.specs.History.{History}
use Rattle.rcp_model.specs.Slot.{actuator_at}
use Rattle.rcp_model.specs.System.{state_after, actuator_vote}
use Rattle.trace_text.specs.declared.label.Label.TheVariants as label
use Rattle.trace_text.specs.Lines.{count_line, frame_guard_line, replica_line, vote_line}
use Rattle.rcp_top.specs.declared.form.LayerWord.{LayerWord}
use Rattle.rcp_top.specs.Frames.{recovery_of_plan, run_of, text_of_all}
use Rattle.rcp_top.specs.Reading.{Reading}

-- the guard after these frames, as a test
abbrev pub meets_guard : PlanParts → ℕ → List FrameRows → Bool
meets_guard plan recovery [] = true
meets_guard plan recovery (rows ∷ past) =
    nat_lt plan.replicas (2 * healthy_count plan (suc recovery) (rows ∷ past))
    && meets_guard plan recovery past

-- the line of an actuator, with what was voted for it in the last of these frames
abbrev pub voted_line : PlanParts → List FrameRows → ℕ → List ℕ
voted_line plan past actuator =
    vote_line (actuator_at plan actuator).name (actuator_vote plan (state_after plan past) actuator)

-- the line of a replica, with what it holds after the frame of these rows, behind the frames past
abbrev pub held_line : PlanParts → ℕ → FrameRows → List FrameRows → ℕ → List ℕ
held_line plan recovery rows past replica =
    let held = (state_after plan (rows ∷ past)).replicas replica in
    replica_line replica (is_down rows replica) held.slot held.cells
    (is_working plan recovery (rows ∷ past) replica)

-- a line for each actuator
abbrev pub voted_lines : PlanParts → List FrameRows → List ℕ
voted_lines plan past = flat_map (voted_line plan past) (range_with_len 0 (length plan.actuators))

-- a line for each replica
abbrev pub held_lines : PlanParts → ℕ → FrameRows → List FrameRows → List ℕ
held_lines plan recovery rows past =
    flat_map (held_line plan recovery rows past) (range_with_len 0 plan.replicas)

-- the lines of the frame of these rows, behind the frames past
unfoldable pub replay_frame_text : PlanParts → ℕ → FrameRows → List FrameRows → List ℕ
replay_frame_text plan recovery rows past =
    frame_guard_line (length past) (meets_guard plan recovery (rows ∷ past))
    ++ (voted_lines plan (rows ∷ past) ++ held_lines plan recovery rows past)

-- the text of a run over a history, all but the line of its recovery length
abbrev pub run_text : PlanParts → ℕ → History → List ℕ
run_text plan recovery = text_of_all (replay_frame_text plan recovery)

-- the text of the replicated system over a history, with this recovery length
unfoldable pub replay_text : PlanParts → ℕ → History → List ℕ
replay_text plan recovery history =
    count_line label.Recovery recovery ++ run_text plan recovery history

-- what is to be printed of a plan and a history, by whichever layer
abbrev pub replay_for : LayerWord → PlanParts → History → List ℕ
replay_for layer plan = replay_text plan (recovery_of_plan plan)

-- what `replay FILE JOURNAL` reads, and the text that is then due
abbrev pub replay_of : List ℕ → List ℕ → Reading (List ℕ)
replay_of = run_of (λ plan. replay_text plan (recovery_of_plan plan))
