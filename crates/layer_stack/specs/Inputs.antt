-- What it is to fill in the rows of the next frame. This project's own.
use Rattle.std.specs.Prelude.{◌≡◌, ℕ, ◌<◌, ◌≤◌, ℤ, List, [], ◌∷◌, length, All}
use Rattle.rcp_base.specs.declared.TheConstants.{MAX_FRAMES}
use Rattle.rcp_model.specs.declared.plan.PlanParts.{PlanParts}
use Rattle.rcp_model.specs.FrameLimits.{IsFrameOf}
use Rattle.rcp_model.specs.FrameRows.{FrameRows}
use Rattle.rcp_model.specs.History.{History, past_of}
use Rattle.rcp_model.specs.Uniprocessor.{initial_values}

-- the sensor values after these frames, the newest first
abbrev pub sensors_after : PlanParts → List FrameRows → List ℤ
sensors_after plan [] = initial_values plan.sensors
sensors_after plan (rows ∷ past) = rows.sensors

-- the rows of all frames of the plan, of at most as many as a journal may have
pub record IsHistoryOf (plan : PlanParts) (history : History) : Type 0 where
  pub few : length history ≤ MAX_FRAMES
  pub frames : All (IsFrameOf plan) history

-- the rows of the frame after so many frames of a history can be filled into these rows, which hold the sensors so far
pub record CanFill (plan : PlanParts) (history : History) (done : ℕ) (rows : FrameRows) : Type 0 where
  pub history_of_plan : IsHistoryOf plan history
  pub more : done < length history
  pub rows_of_plan : IsFrameOf plan rows
  pub sensors : rows.sensors ≡ sensors_after plan (past_of history done)
