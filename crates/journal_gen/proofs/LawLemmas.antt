-- Generated journals are accepted, and guarded.
use Rattle.std.proofs.Common.{◌≡◌, ℕ, ◌≤◌, List, length, Ok, Result, sym, ap, ◌∙◌, subst, arith}
use Rattle.rcp_model.specs.declared.plan.PlanParts.{PlanParts}
use Rattle.rcp_model.specs.Health.{MeetsGuard}
use Rattle.rcp_model.specs.History.{History, past_of}
use Rattle.rcp_model.specs.Plan.{IsPlan}
use Rattle.journal_gen.specs.Generator.{journal_text}
use Rattle.journal_gen.specs.Laws.{GeneratedJournalsAreAccepted, GeneratedJournalsAreGuarded, IsGuarded, IsJournalOf}
use Rattle.journal_gen.proofs.AcceptedLemmas.{generated_history, history_is, history_length}
use Rattle.journal_gen.proofs.GuardLemmas.{guard_holds}

pub journals_are_accepted : GeneratedJournalsAreAccepted
journals_are_accepted plan recovery number frames is some few = (
  generated_history plan recovery number frames,
  history_is plan recovery number frames is some few,
  history_length plan recovery number frames,
)

pub journals_are_guarded : GeneratedJournalsAreGuarded
journals_are_guarded plan recovery number frames is some few history done read within =
    let generated = generated_history plan recovery number frames in
    let same : generated ≡ history = same_Ok (sym (history_is plan recovery number frames is some few) ∙ read) in
    let lengths : length history ≡ frames = ap length (sym same) ∙ history_length plan recovery number frames in
    subst (λ (h : History). MeetsGuard plan recovery (past_of h done)) same
    (guard_holds plan recovery number frames is done (omega (arith, within, lengths)))
  where
    same_Ok : {A E : Type 0} {x y : A} → ◌≡◌ {A = Result A E} (Ok x) (Ok y) → x ≡ y
    same_Ok e = cc

-- the same of bytes that are the text
pub bytes_are_accepted : (plan : PlanParts) (recovery number frames : ℕ) (bytes : List ℕ) → IsPlan plan → 1 ≤ frames → frames ≤ 1_000_000
    → bytes ≡ journal_text plan recovery number frames → IsJournalOf plan frames bytes
bytes_are_accepted plan recovery number frames bytes is some few text =
    subst (IsJournalOf plan frames) (sym text) (journals_are_accepted plan recovery number frames is some few)

pub bytes_are_guarded : (plan : PlanParts) (recovery number frames : ℕ) (bytes : List ℕ) → IsPlan plan → 1 ≤ frames → frames ≤ 1_000_000
    → bytes ≡ journal_text plan recovery number frames → IsGuarded plan recovery bytes
bytes_are_guarded plan recovery number frames bytes is some few text =
    subst (IsGuarded plan recovery) (sym text) (journals_are_guarded plan recovery number frames is some few)
