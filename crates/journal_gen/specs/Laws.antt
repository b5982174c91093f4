-- What a reader of journals says of a generated one. This project's own.
use Rattle.std.specs.Prelude.{◌≡◌, ℕ, ◌≤◌, List, length, Ok}
use Rattle.rcp_base.specs.declared.TheConstants.{MAX_FRAMES}
use Rattle.rcp_model.specs.declared.plan.PlanParts.{PlanParts}
use Rattle.rcp_model.specs.Health.{MeetsGuard}
use Rattle.rcp_model.specs.History.{History, past_of}
use Rattle.rcp_model.specs.Plan.{IsPlan}
use Rattle.fault_journal.specs.History.{journal_result}
use Rattle.journal_gen.specs.Generator.{journal_text}

-- the bytes are a journal of the plan, with so many frames
abbrev pub IsJournalOf : PlanParts → ℕ → List ℕ → Type 0
IsJournalOf plan frames bytes =
    (history : History) × (journal_result plan bytes ≡ Ok history) × (length history ≡ frames)

-- in the history of the bytes the guard holds after each number of frames, for this recovery length
abbrev pub IsGuarded : PlanParts → ℕ → List ℕ → Type 0
IsGuarded plan recovery bytes =
    (history : History) (frames : ℕ) → journal_result plan bytes ≡ Ok history
    → frames ≤ length history → MeetsGuard plan recovery (past_of history frames)

-- a generated journal passes each test of a journal, and has as many frames as were asked for
abbrev pub GeneratedJournalsAreAccepted : Type 0
GeneratedJournalsAreAccepted =
    (plan : PlanParts) (recovery number frames : ℕ)
    → IsPlan plan → 1 ≤ frames → frames ≤ MAX_FRAMES
    → IsJournalOf plan frames (journal_text plan recovery number frames)

-- the guard holds in each of its frames, for every number of replicas
abbrev pub GeneratedJournalsAreGuarded : Type 0
GeneratedJournalsAreGuarded =
    (plan : PlanParts) (recovery number frames : ℕ)
    → IsPlan plan → 1 ≤ frames → frames ≤ MAX_FRAMES
    → IsGuarded plan recovery (journal_text plan recovery number frames)
