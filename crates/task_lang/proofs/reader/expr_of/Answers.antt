use Rattle.std.proofs.Common.{[]}
use Rattle.task_lang.specs.Statements.{scope_of}
use Rattle.task_lang.proofs.ReaderSteps.{expr_read}
use Rattle.task_lang.proofs.reader.expr_of.Goals as goal

pub returns : goal.returns
returns c =
    expr_read c.new-names.result (scope_of c.args.sensors.now c.args.cells.now []) 64 c.args.tokens.now c.whole_expr.result c.new-names.ensures c.whole_expr.ensures
