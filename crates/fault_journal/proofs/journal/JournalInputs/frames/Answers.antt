use Rattle.fault_journal.proofs.JournalLemmas.{told-length}
use Rattle.fault_journal.proofs.journal.JournalInputs.frames.Goals as goal

pub returns : goal.returns
returns c = told-length c.args.self.now
