use Rattle.task_lang.proofs.FaultLemmas.{expressions_read}
use Rattle.task_lang.proofs.laws.expressions_are_read.Goals as goal

pub returns : goal.returns
returns c = expressions_read
