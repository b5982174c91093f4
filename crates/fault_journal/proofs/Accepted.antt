-- What the rows of a journal keep together. This project's own.
use Rattle.std.specs.Prelude.{◌<◌, ◌≤◌, All, AllPairs}
use Rattle.rcp_base.specs.declared.TheConstants.{MAX_FRAMES}
use Rattle.rcp_model.specs.declared.plan.PlanParts.{PlanParts}
use Rattle.fault_journal.specs.Journal.{JournalRows}
use Rattle.fault_journal.specs.Filling.{IsRowOf}

-- the rows of a journal over a plan, the last one first: their frames never fall, and are frames of the journal
pub record AreJournalRows (plan : PlanParts) (journal : JournalRows) : Type 0 where
  pub rows : All (IsRowOf plan) journal.rows
  pub order : AllPairs (λ later earlier. earlier.frame ≤ later.frame) journal.rows
  pub ends : All (λ row. row.frame < journal.frames) journal.rows
  pub few : journal.frames ≤ MAX_FRAMES
