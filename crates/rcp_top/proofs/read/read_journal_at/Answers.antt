-- The verdict on what was seen of the file is that on the file.
use Rattle.std.proofs.Common.{Result, subst}
use Rattle.rcp_model.specs.History.{History}
use Rattle.fault_journal.specs.History.{journal_result}
use Rattle.fault_journal.specs.declared.fault.JournalFault.{JournalFault}
use Rattle.rcp_top.specs.Reading.{Reading, End, file_at}
use Rattle.rcp_top.specs.Finds.{IsSeenUpTo, TellsEnd}
use Rattle.rcp_top.specs.Read.{IsJournal, good_history}
use Rattle.rcp_top.proofs.JudgeLemmas.{same_journal}
use Rattle.rcp_top.proofs.ReadingLaws.{finds_then, finds_here, later_self}
use Rattle.rcp_top.proofs.read.read_journal_at.Goals as goal

pub returns-clause-finds : goal.returns-clause-finds
returns-clause-finds g c =
    let plan = c.args.plan.now in
    let now = g.F.Folder.state c.read_file.new.folder in
    finds_then (λ seen. IsSeenUpTo 67108864 seen.items) (IsJournal plan) _ now now (file_at c.args.journal.now) (λ bytes. Reading.gives (good_history (journal_result plan bytes)))
    c.in_ok-bytes.bytes c.journal_in.result c.in_ok-bytes.ensures.later (later_self now) c.in_ok-bytes.ensures.finds
    (λ bytes seen.
    let P : Result History JournalFault → Type 0 = λ said. TellsEnd (IsJournal plan) c.journal_in.result (End.gave (good_history said)) in
    finds_here (IsJournal plan) now now (good_history (journal_result plan bytes)) c.journal_in.result
    (subst P (same_journal plan c.in_ok-bytes.bytes.items bytes seen) (rw c.as_slice.ensures.value at c.journal_in.ensures)))
