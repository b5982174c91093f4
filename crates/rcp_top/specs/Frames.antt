-- Texts of frames, one after the other, and what is read for them. This project's own.
use Rattle.std.specs.Prelude.{◌≡◌, ◌≤◌, ℕ, List, [], ◌∷◌, ◌++◌, length}
use Rattle.rcp_model.specs.declared.plan.PlanParts.{PlanParts}
use Rattle.rcp_model.specs.FrameRows.{FrameRows}
use Rattle.rcp_model.specs.History.{History}
use Rattle.rcp_model.specs.PlanGraph.{graph_of_plan}
use Rattle.rcp_model.specs.Shown.{recovery_length}
use Rattle.fault_journal.specs.Telling.{IsJournalOf, history_in}
use Rattle.trace_text.specs.declared.label.Label.TheVariants as label
use Rattle.trace_text.specs.Lines.{count_line}
use Rattle.rcp_top.specs.declared.read.RunFiles.{RunFiles}
use Rattle.rcp_top.specs.Read.{plan_at, history_at, shown}
use Rattle.rcp_top.specs.Reading.{Reading, ◌>>=◌}

-- the texts of these frames, oldest first, behind the frames past
unfoldable pub texts_from : (FrameRows → List FrameRows → List ℕ) → List FrameRows → History → List ℕ
texts_from text past [] = []
texts_from text past (rows ∷ frames) = text rows past ++ texts_from text (rows ∷ past) frames

-- the texts of all frames of a history, and the line that ends them
abbrev pub text_of_all : (FrameRows → List FrameRows → List ℕ) → History → List ℕ
text_of_all text history = texts_from text [] history ++ count_line label.End (length history)

-- how soon the vote pattern of a plan recovers
abbrev pub recovery_of_plan : PlanParts → ℕ
recovery_of_plan plan = recovery_length (graph_of_plan plan)

-- a task file and a journal are read, and this text of them is then due
abbrev pub run_of : (PlanParts → History → List ℕ) → List ℕ → List ℕ → Reading (List ℕ)
run_of text file journal = do
  plan ← plan_at file
  history ← history_at plan journal
  shown (text plan history)

-- what was found shows this text, by what is asked of it
pub record ShowsRun {W : Type 0} (text_for : W → PlanParts → History → List ℕ)
    (found : RunFiles W) (text : List ℕ) : Type 0 where
  pub journal : IsJournalOf found.judged.plan found.journal
  pub some : 1 ≤ found.judged.length
  pub length : found.judged.length ≡ recovery_of_plan found.judged.plan
  pub is :
      let plan = found.judged.plan in
      text ≡ text_for found.asked plan (history_in plan found.journal)
