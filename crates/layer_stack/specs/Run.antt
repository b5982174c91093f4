-- What a run over a layer has seen of a history. After NASA TM-102716.
use Rattle.std.specs.Prelude.{◌≡◌, ◌≤◌, ◌↔◌, ◌+◌, ℕ, List, [], ◌∷◌, length, IsTrue}
use Rattle.rcp_model.specs.declared.plan.PlanParts.{PlanParts}
use Rattle.rcp_model.specs.FrameLimits.{IsFrameOf}
use Rattle.rcp_model.specs.FrameRows.{FrameRows, no_rows}
use Rattle.rcp_model.specs.Health.{MeetsGuard}
use Rattle.rcp_model.specs.History.{History, past_of}
use Rattle.rcp_model.specs.Plan.{IsPlan}
use Rattle.rcp_model.specs.System.{SystemState, state_after}
use Rattle.rcp_model.specs.Uniprocessor.{initial_values}
use Rattle.layer_stack.specs.declared.run.Run.{Run}
use Rattle.layer_stack.specs.Inputs.{IsHistoryOf}
use Rattle.layer_stack.specs.Streaks.{AreStreaks}

-- the rows of the last of these frames; before the first, the initial values of the sensors and no other row
abbrev pub last_rows : PlanParts → List FrameRows → FrameRows
last_rows plan [] = no_rows plan (initial_values plan.sensors)
last_rows plan (rows ∷ past) = rows

-- a run stands for these frames, where this says of which plan and at which state its layer is
pub record StandsFor {L : Type 0} (is_at : L → PlanParts → SystemState → Type 0)
    (run : Run L) (past : List FrameRows) : Type 0 where
  pub rules : IsPlan run.plan.now
  pub some : 1 ≤ run.length
  pub at : is_at run.layer run.plan.now (state_after run.plan.now past)
  pub streaks : AreStreaks run.plan.now run.length past run.streaks.items
  pub guard : IsTrue run.guard ↔ MeetsGuard run.plan.now run.length past
  pub rows : IsFrameOf run.plan.now run.input
  pub input : run.input ≡ last_rows run.plan.now past

-- it stands for the frames done of a history of its plan, and so many more are there
pub record CanRun {L : Type 0} (is_at : L → PlanParts → SystemState → Type 0)
    (run : Run L) (history : History) (done count : ℕ) : Type 0 where
  pub of_plan : IsHistoryOf run.plan.now history
  pub more : done + count ≤ length history
  pub stands : StandsFor is_at run (past_of history done)

-- it stands for some frames
abbrev pub IsStanding : {L : Type 0} → (L → PlanParts → SystemState → Type 0) → Run L → Type 0
IsStanding is_at run = (past : List FrameRows) × StandsFor is_at run past
