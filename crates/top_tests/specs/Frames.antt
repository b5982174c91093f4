-- The frames of a journal, one after the other. This project's own.
use Rattle.std.specs.Prelude.{◌≡◌, length}
use Rattle.rcp_model.specs.declared.plan.PlanParts.{PlanParts}
use Rattle.rcp_model.specs.FrameLimits.{IsFrameOf}
use Rattle.rcp_model.specs.FrameRows.{FrameRows}
use Rattle.rcp_model.specs.History.{History, past_of}
use Rattle.layer_stack.specs.Inputs.{IsHistoryOf, sensors_after}
use Rattle.fault_journal.specs.declared.journal.Journal.{Journal}
use Rattle.fault_journal.specs.Telling.{Tells}

-- the sizes of the motor's plan
pub record IsOfMotor (plan : PlanParts) : Type 0 where
  pub replicas : plan.replicas ≡ 3
  pub sensors : length plan.sensors ≡ 1
  pub cells : length plan.cells ≡ 3
  pub actuators : length plan.actuators ≡ 1

-- the journal of this history, before its first frame
pub record IsAtStart (plan : PlanParts) (history : History) (journal : Journal) : Type 0 where
  pub tells : Tells journal plan history
  pub history_of_plan : IsHistoryOf plan history
  pub start : journal.done ≡ 0

-- the journal tells this history, and its next frame can be filled into these rows
pub record CanFillNext (plan : PlanParts) (history : History) (journal : Journal) (rows : FrameRows) : Type 0 where
  pub tells : Tells journal plan history
  pub history_of_plan : IsHistoryOf plan history
  pub of_plan : IsFrameOf plan rows
  pub sensors : rows.sensors ≡ sensors_after plan (past_of history journal.done)
