use Rattle.task_lang.proofs.RowSteps.{task_read}
use Rattle.task_lang.proofs.statements.task_of.Goals as goal

pub returns : goal.returns
returns c = task_read 64 c.args.sensors.now c.args.cells.now c.args.name c.args.tokens.now c.task_at.result c.task_at.ensures
