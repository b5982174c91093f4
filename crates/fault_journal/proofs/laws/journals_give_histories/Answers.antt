use Rattle.fault_journal.proofs.HistoryLemmas.{journals_give_histories}
use Rattle.fault_journal.proofs.laws.journals_give_histories.Goals as goal

pub returns : goal.returns
returns c = journals_give_histories
