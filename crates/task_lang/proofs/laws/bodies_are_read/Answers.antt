use Rattle.task_lang.proofs.StatementLemmas.{bodies_read}
use Rattle.task_lang.proofs.laws.bodies_are_read.Goals as goal

pub returns : goal.returns
returns c = bodies_read
