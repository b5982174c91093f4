-- A run over a layer that goes through a journal frame by frame. This project's own.
use Rattle.rcp_model.specs.declared.plan.PlanParts.{PlanParts}
use Rattle.rcp_model.specs.History.{History, past_of}
use Rattle.rcp_model.specs.System.{SystemState}
use Rattle.layer_stack.specs.Inputs.{IsHistoryOf}
use Rattle.layer_stack.specs.Run.{StandsFor}
use Rattle.layer_stack.specs.declared.run.Run.{Run}
use Rattle.fault_journal.specs.declared.journal.Journal.{Journal}
use Rattle.fault_journal.specs.Telling.{Tells}

-- the run stands for the frames that the journal of this history has done
pub record GoesThrough {L : Type 0} (is_at : L → PlanParts → SystemState → Type 0) (run : Run L)
    (journal : Journal) (history : History) : Type 0 where
  pub tells : Tells journal run.plan.now history
  pub history_of_plan : IsHistoryOf run.plan.now history
  pub stands : StandsFor is_at run (past_of history journal.done)
