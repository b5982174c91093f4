-- The words in which a reader counts frames, and the lists with the newest frame first, say the same.
-- This project's own.
use Rattle.std.specs.Prelude.{◌≡◌, ◌<◌, ◌↔◌, ℕ, suc, ◌%◌, length}
use Rattle.rcp_model.specs.declared.plan.PlanParts.{PlanParts}
use Rattle.rcp_model.specs.AtFrame.{rows_at, ideal_after, system_after, ideal_command_at, is_working_at, MeetsGuardAt}
use Rattle.rcp_model.specs.Health.{is_working, MeetsGuard}
use Rattle.rcp_model.specs.History.{History, past_of, sensors_of}
use Rattle.rcp_model.specs.Slot.{slot_count, actuator_at, cells_after_slot}
use Rattle.rcp_model.specs.System.{initial_state, next_state}
use Rattle.rcp_model.specs.Uniprocessor.{initial_values, ideal_command}

-- each frame of a history makes one step of the single processor and of the replicated system
pub record StepsByFrames (plan : PlanParts) (history : History) : Type 0 where
  pub ideal_slot : (frames : ℕ) → frames < suc (length history) → (ideal_after plan history frames).slot ≡ frames % slot_count plan
  pub ideal_start : (ideal_after plan history 0).cells ≡ initial_values plan.cells
  pub ideal_cells :
      (t : ℕ) → t < length history
      → (ideal_after plan history (suc t)).cells
      ≡ cells_after_slot plan (t % slot_count plan) (rows_at history t).sensors (ideal_after plan history t).cells
  pub system_start : system_after plan history 0 ≡ initial_state plan
  pub system_step :
      (t : ℕ) → t < length history → system_after plan history (suc t) ≡ next_state plan (system_after plan history t) (rows_at history t)
  pub command :
      (t actuator : ℕ) → t < length history
      → ideal_command plan (actuator_at plan actuator) (rows_at history t).sensors (sensors_of (past_of history t))
      ≡ ideal_command_at plan history t actuator

-- who is working at a frame of a history, and whether the guard holds there
pub record JudgesByFrames (plan : PlanParts) (recovery : ℕ) (history : History) : Type 0 where
  pub working :
      (t replica : ℕ) → t < length history
      → is_working plan recovery (past_of history (suc t)) replica ≡ is_working_at plan recovery history t replica
  pub guard : (t : ℕ) → t < length history → MeetsGuard plan recovery (past_of history (suc t)) ↔ MeetsGuardAt plan recovery history t

abbrev pub HistoriesGoByFrames : Type 0
HistoriesGoByFrames = (plan : PlanParts) (recovery : ℕ) (history : History) → StepsByFrames plan history × JudgesByFrames plan recovery history
