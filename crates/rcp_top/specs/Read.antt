-- The files that forms read, and what they find in them. This project's own.
use Rattle.std.specs.Prelude.{◌≡◌, ℕ, false, List, Result, Ok, Err, if◌then◌else◌}
use Rattle.rcp_model.specs.declared.plan.PlanParts.{PlanParts}
use Rattle.rcp_model.specs.History.{History}
use Rattle.rcp_model.specs.Levels.{has_cycle}
use Rattle.rcp_model.specs.PlanGraph.{graph_of_plan}
use Rattle.rcp_model.specs.Shown.{recovery_length, witness_walk, witness_cycle}
use Rattle.task_file.specs.declared.fault.FileFault.{FileFault}
use Rattle.task_file.specs.TaskFile.{task_file_result}
use Rattle.fault_journal.specs.declared.fault.JournalFault.{JournalFault}
use Rattle.fault_journal.specs.declared.journal.Journal.{Journal}
use Rattle.fault_journal.specs.History.{journal_result}
use Rattle.fault_journal.specs.Telling.{IsJournalOf, history_in}
use Rattle.task_graph.specs.Rows.{IsDependenceOf}
use Rattle.rcp_top.specs.declared.judge.Judged.{Judged}
use Rattle.rcp_top.specs.declared.stop.Refusal.{Refusal}
use Rattle.rcp_top.specs.declared.stop.Refusal.TheVariants as refusal
use Rattle.rcp_top.specs.Reading.{Reading, file_at, ◌>>=◌}

-- a plan whose vote pattern has no unvoted cycle, or what is refused
abbrev pub good_plan : Result PlanParts FileFault → Result PlanParts Refusal
good_plan (Err fault) = Err (refusal.TaskFile fault)
good_plan (Ok plan) =
    let graph = graph_of_plan plan in
    if has_cycle graph then Err (refusal.Pattern plan (witness_cycle graph)) else Ok plan

-- the rows of all frames, or what is refused
abbrev pub good_history : Result History JournalFault → Result History Refusal
good_history (Err fault) = Err (refusal.Journal fault)
good_history (Ok history) = Ok history

-- the plan of a task file
abbrev pub plan_at : List ℕ → Reading PlanParts
plan_at file = do
  bytes ← file_at file
  Reading.gives (good_plan (task_file_result bytes))

-- the history of a plan's journal
abbrev pub history_at : PlanParts → List ℕ → Reading History
history_at plan journal = do
  bytes ← file_at journal
  Reading.gives (good_history (journal_result plan bytes))

-- this text is due
abbrev pub shown : List ℕ → Reading (List ℕ)
shown text = Reading.gives (Ok text)

-- this plan, whose pattern has no unvoted cycle, with the cells that each cell needs, and its recovery length and walk
pub record IsJudged (judged : Judged) (plan : PlanParts) : Type 0 where
  pub is : judged.plan ≡ plan
  pub good : has_cycle (graph_of_plan plan) ≡ false
  pub rows : IsDependenceOf plan judged.rows
  pub length : judged.length ≡ recovery_length (graph_of_plan plan)
  pub walk : judged.walk ≡ witness_walk (graph_of_plan plan)

-- the journal of this history, before its first frame
pub record IsJournal (plan : PlanParts) (journal : Journal) (history : History) : Type 0 where
  pub of_plan : IsJournalOf plan journal
  pub told : history_in plan journal ≡ history
