-- The fault of a text is that of the list, and a task adds to those so far.
use Rattle.std.proofs.Common.{arith}
use Rattle.std.proofs.lemmas.Result.{err_from_is_err_and}
use Rattle.task_file.specs.Texts.{task_of}
use Rattle.task_file.proofs.TextLemmas.{text_is_short, text_stops, text_more}
use Rattle.task_file.proofs.texts.tasks_of.Goals as goal

pub task_of-requires-clause-text : goal.task_of-requires-clause-text
task_of-requires-clause-text c = text_is_short c.args.texts.now c.loop-i.i _ (omega arith) c.requires.short

pub returns-in_err-task_of : goal.returns-in_err-task_of
returns-in_err-task_of c =
    let p = err_from_is_err_and c.from_residual.result c.from_residual.ensures.1 in
    rw (p.1, p.2) (text_stops (task_of c.args.sensors.now c.args.cells.now) c.args.texts.now c.args.names.now c.loop-i.tasks c.loop-i.i _ c.index-names-i.result c.in_err-task_of.field-0.0 _
    (omega arith) c.requires.names c.index-names-i.is c.loop-i.invariant c.in_err-task_of.ensures)

pub loop-i-preserved : goal.loop-i-preserved
loop-i-preserved c =
    rw c.in_ok-push.ensures.ok (text_more (task_of c.args.sensors.now c.args.cells.now) c.args.texts.now c.args.names.now c.loop-i.tasks c.loop-i.i _ c.index-names-i.result c.in_ok-task_of.field-0 _
    (omega arith) c.requires.names c.index-names-i.is c.loop-i.invariant c.in_ok-task_of.ensures)
