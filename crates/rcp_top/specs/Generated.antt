-- `gen FILE NUMBER FRAMES`: a journal of a plan that a number gives. This project's own.
use Rattle.std.specs.Prelude.{◌≡◌, ◌≤◌, ℕ, List}
use Rattle.journal_gen.specs.Generator.{journal_text}
use Rattle.rcp_top.specs.declared.generated.Generation.{Generation}
use Rattle.rcp_top.specs.Frames.{recovery_of_plan}
use Rattle.rcp_top.specs.Read.{plan_at, shown}
use Rattle.rcp_top.specs.Reading.{Reading, ◌>>=◌}

-- what `gen FILE` reads for a number and a number of frames, and the text that is then due
abbrev pub gen_of : List ℕ → ℕ → ℕ → Reading (List ℕ)
gen_of file number frames = do
  plan ← plan_at file
  shown (journal_text plan (recovery_of_plan plan) number frames)

-- what was found shows this text
pub record ShowsJournal (found : Generation) (text : List ℕ) : Type 0 where
  pub some : 1 ≤ found.judged.length
  pub is : text ≡ journal_text found.judged.plan found.judged.length found.request.number found.request.frames
