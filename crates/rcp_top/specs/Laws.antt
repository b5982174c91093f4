-- What follows from the way in which a call may end. This project's own.
use Rattle.std.specs.Prelude.{◌≡◌, ◌⊎◌, ◌↔◌, List, ℕ, Some, Ok}
use Rattle.std.specs.Io.KnownBytes.{Appends}
use Rattle.rcp_base.specs.Files.{Files, Rises}
use Rattle.rcp_base.specs.States.{FolderState, SinkState, HasFailed}
use Rattle.rcp_top.specs.declared.status.Status.{Status}
use Rattle.rcp_top.specs.declared.status.Status.TheVariants as status
use Rattle.rcp_model.specs.PlanGraph.{graph_of_plan}
use Rattle.rcp_model.specs.Walk.{IsUnvotedCycle}
use Rattle.rcp_model.specs.Witness.{IsWitnessCycle}
use Rattle.rcp_model.specs.declared.node.Node.{Node}
use Rattle.rcp_model.specs.declared.plan.PlanParts.{PlanParts}
use Rattle.rcp_model.specs.Recovery.{IsRecovery}
use Rattle.task_file.specs.TaskFile.{task_file_result}
use Rattle.trace_text.specs.PlanLines.{pattern_refused_line}
use Rattle.rcp_top.specs.Forms.{Form, form_of}
use Rattle.rcp_top.specs.Check.{check_text}
use Rattle.rcp_top.specs.Headline.{IsReplay}
use Rattle.rcp_top.specs.Outcome.{Outcome, Ends, EndsOver, outcome_of}

-- where no read failed, the call ends as is due over the folder's own files
abbrev pub NoFailedReadLeavesNoChoice : Type 0
NoFailedReadLeavesNoChoice =
    (old new : FolderState) (files : Files) (words : List (List ℕ)) (answer : Status) (from to : SinkState)
    → old.files ≡ Some files → ¬ (HasFailed old new) → EndsOver old new words (λ due. Ends due answer from to)
    → Ends (outcome_of words files) answer from to

-- where neither folder nor sink failed, the status and the whole text are as is due, or memory ran out
abbrev pub ARunThatCanFinishDoes : Type 0
ARunThatCanFinishDoes =
    (old new : FolderState) (files : Files) (words : List (List ℕ)) (answer : Status) (from to : SinkState)
    → old.files ≡ Some files → ¬ (HasFailed old new) → ¬ (Rises from.faults to.faults)
    → EndsOver old new words (λ due. Ends due answer from to)
    → let due = outcome_of words files in
    ((answer ≡ due.status) × Appends from.written to.written due.text) ⊎ (answer ≡ status.Memory)

-- the word of the task file
abbrev pub file_of : Form → List ℕ
file_of (Form.check file) = file
file_of (Form.thin file) = file
file_of (Form.ideal file journal) = file
file_of (Form.replay file journal) = file
file_of (Form.events file journal order) = file
file_of (Form.summary file journal) = file
file_of (Form.gen file number frames) = file

-- words of a form whose task file is there and gives a plan
pub record GivesPlan (words : List (List ℕ)) (files : Files) (form : Form) (plan : PlanParts) : Type 0 where
  pub form_is : form_of words ≡ Some form
  pub bytes : List ℕ
  pub held : files (file_of form) ≡ Some bytes
  pub given : task_file_result bytes ≡ Ok plan

-- a line that names an unvoted cycle of the plan, and the one that is defined to be shown
pub record NamesCycle (plan : PlanParts) (text : List ℕ) : Type 0 where
  pub nodes : List Node
  pub cycle : IsUnvotedCycle (graph_of_plan plan) nodes
  pub witness : IsWitnessCycle (graph_of_plan plan) nodes
  pub line : text ≡ pattern_refused_line plan.cells nodes

-- in each form a vote pattern is refused exactly where it has an unvoted cycle, and the line names one
pub record IsRefusedAtCycles (plan : PlanParts) (due : Outcome) : Type 0 where
  pub exactly : (due.status ≡ status.PatternRefused)
      ↔ ((nodes : List Node) × IsUnvotedCycle (graph_of_plan plan) nodes)
  pub named : due.status ≡ status.PatternRefused → NamesCycle plan due.text

abbrev pub PatternsAreRefusedAtCycles : Type 0
PatternsAreRefusedAtCycles =
    (words : List (List ℕ)) (files : Files) (form : Form) (plan : PlanParts) → GivesPlan words files form plan
    → IsRefusedAtCycles plan (outcome_of words files)

-- an analysis tells the least number of nodes that no unvoted walk has, and the walk that is defined to be shown
pub record IsAnalysed (plan : PlanParts) (due : Outcome) : Type 0 where
  pub length : ℕ
  pub walk : List Node
  pub told : due ≡ record { status = status.Done; text = check_text plan length walk }
  pub right : IsRecovery (graph_of_plan plan) length walk

abbrev pub AnalysesAreRight : Type 0
AnalysesAreRight =
    (words : List (List ℕ)) (files : Files) (file : List ℕ) (plan : PlanParts) → GivesPlan words files (Form.check file) plan
    → ((nodes : List Node) → ¬ (IsUnvotedCycle (graph_of_plan plan) nodes)) → IsAnalysed plan (outcome_of words files)

-- whichever layer the words name, the outcome is the same
abbrev pub AllLayersPrintTheSame : Type 0
AllLayersPrintTheSame =
    (files : Files) (file journal : List ℕ) (one other : List (List ℕ))
    → IsReplay file journal one → IsReplay file journal other
    → outcome_of one files ≡ outcome_of other files
