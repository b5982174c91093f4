-- What a replay prints of frame t, with or without the guard, in the words in which a reader counts.
-- After NASA TM-102716; the text is this project's own.
use Rattle.std.specs.Prelude.{◌≡◌, ◌<◌, ℕ, suc, true, false, List, length, map, slice_get, Some}
use Rattle.std.specs.List.{range_with_len}
use Rattle.rcp_model.specs.declared.plan.PlanParts.{PlanParts}
use Rattle.rcp_model.specs.AtFrame.{rows_at, system_after, vote_at, is_working_at, MeetsGuardAt}
use Rattle.rcp_model.specs.FrameRows.{is_down}
use Rattle.rcp_model.specs.History.{History}
use Rattle.rcp_model.specs.Plan.{IsPlan}
use Rattle.rcp_model.specs.Slot.{actuator_at}
use Rattle.trace_text.specs.Lines.{frame_guard_line, replica_line, vote_line}
use Rattle.rcp_top.specs.Headline.{vote_lines_at, replica_lines_at}
use Rattle.rcp_top.specs.Printed.{frame_lines}
use Rattle.rcp_top.specs.Replay.{replay_text}

-- what was voted for an actuator in frame t
abbrev pub vote_line_at : PlanParts → History → ℕ → ℕ → List ℕ
vote_line_at plan history t actuator =
    vote_line (actuator_at plan actuator).name (vote_at plan history t actuator)

-- whether a replica was down in frame t, what it holds after it, and whether it is working there
abbrev pub replica_line_at : PlanParts → ℕ → History → ℕ → ℕ → List ℕ
replica_line_at plan recovery history t replica =
    let held = (system_after plan history (suc t)).replicas replica in
    replica_line replica (is_down (rows_at history t) replica) held.slot held.cells
    (is_working_at plan recovery history t replica)

-- a text tells of frame t whether the guard holds, the votes, and the replicas
pub record TellsFrame (plan : PlanParts) (recovery : ℕ) (history : History)
    (text : List ℕ) (t : ℕ) : Type 0 where
  pub guarded :
      MeetsGuardAt plan recovery history t
      → slice_get (frame_lines text) t ≡ Some (frame_guard_line t true)
  pub unguarded :
      ¬ (MeetsGuardAt plan recovery history t)
      → slice_get (frame_lines text) t ≡ Some (frame_guard_line t false)
  pub votes :
      vote_lines_at t text
      ≡ map (vote_line_at plan history t) (range_with_len 0 (length plan.actuators))
  pub replicas :
      replica_lines_at t text
      ≡ map (replica_line_at plan recovery history t) (range_with_len 0 plan.replicas)

-- a replay tells of each frame of its history
abbrev pub ReplaysTellEachFrame : Type 0
ReplaysTellEachFrame =
    (plan : PlanParts) (recovery : ℕ) (history : History) (t : ℕ)
    → IsPlan plan → t < length history
    → TellsFrame plan recovery history (replay_text plan recovery history) t
