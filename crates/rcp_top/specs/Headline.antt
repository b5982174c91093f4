-- Under the guard `replay` prints the votes of `ideal`, and what it holds for each working replica.
-- After NASA TM-102716; the text is this project's own.
use Rattle.std.specs.Prelude.{◌≡◌, ◌↔◌, ◌<◌, ℕ, true, List, [], ◌∷◌, ◌++◌, length, codes, slice_get, Some, Ok}
use Rattle.std.specs.Fmt.{decimal}
use Rattle.rcp_base.specs.Files.{Files}
use Rattle.rcp_model.specs.declared.plan.PlanParts.{PlanParts}
use Rattle.rcp_model.specs.AtFrame.{is_working_at, MeetsGuardAt}
use Rattle.rcp_model.specs.FrameRows.{FrameRows}
use Rattle.rcp_model.specs.Health.{MeetsGuard}
use Rattle.rcp_model.specs.History.{History}
use Rattle.task_file.specs.TaskFile.{task_file_result}
use Rattle.fault_journal.specs.History.{journal_result}
use Rattle.rcp_top.specs.declared.status.Status.TheVariants as status
use Rattle.rcp_top.specs.Forms.{names_layer}
use Rattle.rcp_top.specs.Outcome.{Outcome, outcome_of}
use Rattle.rcp_top.specs.Printed.{lines_of_frame}
use Rattle.rcp_top.specs.Frames.{recovery_of_plan}
use Rattle.rcp_top.specs.Replay.{meets_guard}

-- this text is to be printed, and no refusal
abbrev pub Prints : Outcome → List ℕ → Type 0
Prints due text = due ≡ record { status = status.Done; text = text }

-- `ideal FILE JOURNAL` is to print this text, over these files
abbrev pub PrintsIdeal : Files → List ℕ → List ℕ → List ℕ → Type 0
PrintsIdeal files file journal text =
    Prints (outcome_of (codes "ideal" ∷ file ∷ journal ∷ []) files) text

-- the words `replay FILE JOURNAL`, alone or with the word of a layer
pub data IsReplay (file journal : List ℕ) : List (List ℕ) → Type 0 where
  alone : IsReplay file journal (codes "replay" ∷ file ∷ journal ∷ [])
  by_layer : (layer : List ℕ) → names_layer layer ≡ true
      → IsReplay file journal (codes "replay" ∷ file ∷ journal ∷ layer ∷ [])

-- `replay FILE JOURNAL`, by whichever layer, is to print this text, over these files
abbrev pub PrintsReplay : Files → List ℕ → List ℕ → List ℕ → Type 0
PrintsReplay files file journal text =
    (words : List (List ℕ)) × IsReplay file journal words × Prints (outcome_of words files) text

-- a plan and a history, as the files under these words give them
pub record AreGiven (files : Files) (file journal : List ℕ)
    (plan : PlanParts) (history : History) : Type 0 where
  pub file_bytes : List ℕ
  pub file_held : files file ≡ Some file_bytes
  pub plan_given : task_file_result file_bytes ≡ Ok plan
  pub journal_bytes : List ℕ
  pub journal_held : files journal ≡ Some journal_bytes
  pub history_given : journal_result plan journal_bytes ≡ Ok history

-- the lines of frame t that begin with `vote`, `replica` and `ideal`
abbrev pub vote_lines_at : ℕ → List ℕ → List (List ℕ)
vote_lines_at t text = lines_of_frame (codes "vote ") t text

abbrev pub replica_lines_at : ℕ → List ℕ → List (List ℕ)
replica_lines_at t text = lines_of_frame (codes "replica ") t text

abbrev pub ideal_lines_at : ℕ → List ℕ → List (List ℕ)
ideal_lines_at t text = lines_of_frame (codes "ideal ") t text

-- in frame t a replica's line has the bytes of the `ideal` line, from `slot` through the last cell
pub record HoldsIdeal (replayed ideal : List ℕ) (t replica : ℕ) : Type 0 where
  pub state : List ℕ
  pub single : ideal_lines_at t ideal ≡ (codes "ideal " ++ state ++ codes "\n") ∷ []
  pub held :
      slice_get (replica_lines_at t replayed) replica
      ≡ Some (codes "replica " ++ decimal replica
      ++ codes " up " ++ state ++ codes " working yes\n")

-- in frame t the votes are those of `ideal`, and each working replica holds what is held there
pub record IsIdealAt (replayed : List ℕ)
    (plan : PlanParts) (history : History) (ideal : List ℕ) (t : ℕ) : Type 0 where
  pub votes : vote_lines_at t replayed ≡ vote_lines_at t ideal
  pub replicas :
      (replica : ℕ) → replica < plan.replicas
      → is_working_at plan (recovery_of_plan plan) history t replica ≡ true
      → HoldsIdeal replayed ideal t replica

-- the same of a text cut short: a front of the votes, and each line of a replica that is there
pub record IsIdealSoFarAt (written : List ℕ)
    (plan : PlanParts) (history : History) (ideal : List ℕ) (t : ℕ) : Type 0 where
  pub more : List (List ℕ)
  pub votes : vote_lines_at t ideal ≡ vote_lines_at t written ++ more
  pub replicas :
      (replica : ℕ) (line : List ℕ) → replica < plan.replicas
      → is_working_at plan (recovery_of_plan plan) history t replica ≡ true
      → slice_get (replica_lines_at t written) replica ≡ Some line
      → HoldsIdeal written ideal t replica

-- the two files give a run, `ideal` prints it, and this holds of each frame under the guard
pub record HoldsUnderTheGuard (files : Files) (file journal : List ℕ)
    (holds : PlanParts → History → List ℕ → ℕ → Type 0) : Type 0 where
  pub plan : PlanParts
  pub history : History
  pub given : AreGiven files file journal plan history
  pub ideal : List ℕ
  pub prints : PrintsIdeal files file journal ideal
  pub frames :
      (t : ℕ) → t < length history
      → MeetsGuardAt plan (recovery_of_plan plan) history t → holds plan history ideal t

-- what a replay prints is ideal in each frame under the guard, whatever the journal has later
abbrev pub ReplaysAreIdealUnderTheGuard : Type 0
ReplaysAreIdealUnderTheGuard =
    (files : Files) (file journal replayed : List ℕ)
    → PrintsReplay files file journal replayed
    → HoldsUnderTheGuard files file journal (IsIdealAt replayed)

-- and so is each front of it, as far as it goes
abbrev pub CutReplaysAreIdealUnderTheGuard : Type 0
CutReplaysAreIdealUnderTheGuard =
    (files : Files) (file journal written rest : List ℕ)
    → PrintsReplay files file journal (written ++ rest)
    → HoldsUnderTheGuard files file journal (IsIdealSoFarAt written)

-- the guard that is printed is the guard
abbrev pub GuardsAreTested : Type 0
GuardsAreTested =
    (plan : PlanParts) (recovery : ℕ) (past : List FrameRows)
    → (meets_guard plan recovery past ≡ true) ↔ MeetsGuard plan recovery past
