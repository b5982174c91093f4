-- What a journal tells, and which frames it has filled in. This project's own.
use Rattle.std.specs.Prelude.{◌≡◌, ℕ, ◌<◌, ◌≤◌, List, reverse, length, take, drop, All, AllPairs}
use Rattle.rcp_model.specs.declared.plan.PlanParts.{PlanParts}
use Rattle.rcp_model.specs.Plan.{IsPlan}
use Rattle.rcp_model.specs.History.{History}
use Rattle.layer_stack.specs.Inputs.{IsHistoryOf}
use Rattle.fault_journal.specs.declared.row.Row.{Row}
use Rattle.fault_journal.specs.declared.journal.Journal.{Journal}
use Rattle.fault_journal.specs.Journal.{JournalRows}
use Rattle.fault_journal.specs.History.{history_of}
use Rattle.fault_journal.specs.Filling.{IsRowOf}

-- the first so many rows are those of the frames that are done
pub record IsPlaceAfter (done : ℕ) (rows : List Row) (place : ℕ) : Type 0 where
  pub within : place ≤ length rows
  pub passed : All (λ row. row.frame < done) (take place rows)
  pub ahead : All (λ row. done ≤ row.frame) (drop place rows)

-- rows of a plan whose frames never fall, of which those of the frames that are done are after
pub record IsOver (plan : PlanParts) (journal : Journal) : Type 0 where
  pub is_plan : IsPlan plan
  pub rows : All (IsRowOf plan) journal.rows.items
  pub order : AllPairs (λ a b. a.frame ≤ b.frame) journal.rows.items
  pub place : IsPlaceAfter journal.done journal.rows.items journal.place

-- the rows and the number of frames, as the definitions have them: the last row first
abbrev pub told_by : Journal → JournalRows
told_by journal = record { rows = reverse journal.rows.items; frames = journal.frames }

-- the rows of all frames that a journal over the plan tells of
abbrev pub history_in : PlanParts → Journal → History
history_in plan journal = history_of plan (told_by journal)

-- the journal is over this plan, and tells of this history
pub record Tells (journal : Journal) (plan : PlanParts) (history : History) : Type 0 where
  pub over : IsOver plan journal
  pub told : history ≡ history_in plan journal

-- a journal over the plan, before its first frame
pub record IsJournalOf (plan : PlanParts) (journal : Journal) : Type 0 where
  pub tells : Tells journal plan (history_in plan journal)
  pub history_of_plan : IsHistoryOf plan (history_in plan journal)
  pub start : journal.done ≡ 0
