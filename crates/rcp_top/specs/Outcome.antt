-- What a call is to answer and to write, over the words and the files, and how it may end. This project's own.
use Rattle.std.specs.Prelude.{◌≡◌, ◌⊎◌, ℕ, List, [], Contains, Option, None, Some, Result, Ok, Err}
use Rattle.std.specs.Io.KnownBytes.{Appends}
use Rattle.rcp_base.specs.declared.sink.WriteError.{WriteError}
use Rattle.rcp_base.specs.declared.sink.WriteError.TheVariants as write
use Rattle.rcp_base.specs.Files.{Files, IfTold, Rises}
use Rattle.rcp_base.specs.States.{FolderState, SinkState, HasFailed, IsUnread}
use Rattle.rcp_base.specs.Writing.{AppendsFront}
use Rattle.trace_text.specs.PlanLines.{pattern_refused_line}
use Rattle.trace_text.specs.Refusals.{unreadable_line, usage_line, task_refused_line, journal_refused_line}
use Rattle.rcp_top.specs.declared.status.Status.{Status}
use Rattle.rcp_top.specs.declared.status.Status.TheVariants as status
use Rattle.rcp_top.specs.declared.stop.Refusal.{Refusal}
use Rattle.rcp_top.specs.declared.stop.Refusal.TheVariants as refusal
use Rattle.rcp_top.specs.Forms.{Form, form_of, work_of}
use Rattle.rcp_top.specs.Reading.{End, end_over, names_read}

-- a status and a text
pub record Outcome : Type 0 where
  pub status : Status
  pub text : List ℕ

-- the words are no form
abbrev pub usage : Outcome
usage = record { status = status.Usage; text = usage_line }

-- no file was read under this word
abbrev pub unreadable : List ℕ → Outcome
unreadable word = record { status = status.ReadFault; text = unreadable_line word }

-- this is refused
abbrev pub refused : Refusal → Outcome
refused (refusal.TaskFile fault) = record { status = status.TaskRefused; text = task_refused_line fault }
refused (refusal.Pattern plan cycle) =
    record { status = status.PatternRefused; text = pattern_refused_line plan.cells cycle }
refused (refusal.Journal fault) = record { status = status.JournalRefused; text = journal_refused_line fault }

-- what is due by the end of what was read
abbrev pub outcome_at : End (List ℕ) → Outcome
outcome_at (End.gave (Ok text)) = record { status = status.Done; text = text }
outcome_at (End.gave (Err why)) = refused why
outcome_at (End.unread word) = unreadable word

-- what a call with these words is to answer and to write, over these files
abbrev pub outcome_by : Option Form → Files → Outcome
outcome_by None files = usage
outcome_by (Some form) files = outcome_at (end_over files (work_of form))

-- the same by the words
abbrev pub outcome_of : List (List ℕ) → Files → Outcome
outcome_of words files = outcome_by (form_of words) files

-- the words that name the files that it reads for it, in turn
abbrev pub words_read_by : Option Form → Files → List (List ℕ)
words_read_by None files = []
words_read_by (Some form) files = names_read files (work_of form)

-- the same by the words
abbrev pub words_read : List (List ℕ) → Files → List (List ℕ)
words_read words files = words_read_by (form_of words) files

-- a call whose outcome is due ends with this status, and leaves this after what the sink had
pub data Ends (due : Outcome) (answer : Status) (old new : SinkState) : Type 0 where
  as_due : answer ≡ due.status → Appends old.written new.written due.text → Ends due answer old new
  sink_failed : answer ≡ status.WriteFault → Rises old.faults new.faults → AppendsFront old.written new.written due.text
      → Ends due answer old new
  out_of_memory : answer ≡ status.Memory → AppendsFront old.written new.written due.text → Ends due answer old new

-- a file that is to be read was not read
pub record HasUnread (old new : FolderState) (words : List (List ℕ)) (name : List ℕ) : Type 0 where
  pub unread : IsUnread old new name
  pub wanted : IfTold old.files (λ files. Contains (words_read words files) name)

-- a call ends as is due over the folder's files; or the folder failed, and it ends as where one of those that it reads is
-- not there
abbrev pub EndsOver : FolderState → FolderState → List (List ℕ) → (Outcome → Type 0) → Type 0
EndsOver old new words ends =
    IfTold old.files (λ files. ends (outcome_of words files)
    ⊎ ((name : List ℕ) × HasFailed old new × Contains (words_read words files) name × ends (unreadable name)))

-- the status where a text was written, or not
abbrev pub status_after : {T : Type 0} → Status → Result T WriteError → Status
status_after due (Ok _) = due
status_after due (Err write.Failed) = status.WriteFault
status_after due (Err write.Memory) = status.Memory
