-- Files that are seen up to their limits are judged as the whole files.
use Rattle.std.proofs.Common.{◌≡◌, ℕ, ◌<◌, List, length, cond, Err, refl, inl, inr, sym, ap, ◌∙◌}
use Rattle.std.proofs.lemmas.Bool.{lt-leb}
use Rattle.rcp_model.specs.declared.plan.PlanParts.{PlanParts}
use Rattle.fault_journal.specs.declared.fault.JournalFault.TheVariants as journal_fault
use Rattle.fault_journal.specs.History.{journal_result}
use Rattle.fault_journal.specs.Journal.{journal_rows, rows_of_records, records_of}
use Rattle.task_file.specs.declared.fault.FileFault.TheVariants as fault
use Rattle.rcp_base.specs.Answers.{◌>>=◌}
use Rattle.task_file.specs.Shape.{sections_of}
use Rattle.task_file.specs.TaskFile.{task_file_result, document_of, parts_of_sections}
use Rattle.rcp_top.specs.Finds.{IsSeenUpTo}

-- a journal over the limit is refused
long_rows : (plan : PlanParts) (bytes : List ℕ) → 67108864 < length bytes → journal_rows plan bytes ≡ Err journal_fault.TooLong
unfolding journal_rows
long_rows plan bytes longer = ap (λ b. cond b (rows_of_records plan (records_of bytes)) (Err journal_fault.TooLong)) (lt-leb (length bytes) 67108864 longer)

long_journal : (plan : PlanParts) (bytes : List ℕ) → 67108864 < length bytes → journal_result plan bytes ≡ Err journal_fault.TooLong
unfolding journal_result
long_journal plan bytes longer = rw (long_rows plan bytes longer) refl

-- a task file over the limit is refused
long_file : (bytes : List ℕ) → 1048576 < length bytes → task_file_result bytes ≡ Err fault.TooLong
unfolding task_file_result
long_file bytes longer =
    ap (λ b. cond b (document_of bytes >>= sections_of >>= parts_of_sections) (Err fault.TooLong)) (lt-leb (length bytes) 1048576 longer)

-- files that are seen up to the limit have the verdict of what was seen
pub same_file : (seen bytes : List ℕ) → IsSeenUpTo 1048576 seen bytes → task_file_result seen ≡ task_file_result bytes
same_file seen bytes (inl is) = ap task_file_result is
same_file seen bytes (inr both) = long_file seen both.0 ∙ sym (long_file bytes both.1)

pub same_journal : (plan : PlanParts) (seen bytes : List ℕ) → IsSeenUpTo 67108864 seen bytes → journal_result plan seen ≡ journal_result plan bytes
same_journal plan seen bytes (inl is) = ap (journal_result plan) is
same_journal plan seen bytes (inr both) = long_journal plan seen both.0 ∙ sym (long_journal plan bytes both.1)
