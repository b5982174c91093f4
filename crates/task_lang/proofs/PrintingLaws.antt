-- What is printed of a task that was read is short, and is read again as the task.
use Rattle.std.proofs.Common.{◌≡◌, ℕ, List, length, sym, subst}
use Rattle.rcp_model.specs.declared.task.Task.{Task}
use Rattle.task_lang.specs.Printing.{task_text}
use Rattle.task_lang.specs.ReadBack.{IsReadAs, ReadsBack, PrintedTasksReadBack}
use Rattle.task_lang.proofs.PrintedTexts.{text_has_tokens, text_is_short}
use Rattle.task_lang.proofs.TextReadBack.{text_read_back}

pub printed_tasks_read_back : PrintedTasksReadBack
printed_tasks_read_back sensors cells text task read = record {
  short = text_is_short sensors cells text task read;
  again = text_read_back sensors cells text (task_text sensors cells task) task read (text_has_tokens sensors cells text task read);
}

-- so also of a text that was printed
pub printed_reads_back : (sensors cells : List (List ℕ)) (task : Task) (printed : List ℕ) → printed ≡ task_text sensors cells task
    → (source : List ℕ) → IsReadAs sensors cells source task → ReadsBack sensors cells (length source) task printed
printed_reads_back sensors cells task printed is source read =
    subst (ReadsBack sensors cells (length source) task) (sym is) (printed_tasks_read_back sensors cells source task read)
