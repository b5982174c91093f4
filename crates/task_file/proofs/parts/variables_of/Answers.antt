-- Each variable has the name at its place.
use Rattle.std.proofs.Common.{arith}
use Rattle.task_file.proofs.VariableLemmas.{variable_more}
use Rattle.task_file.proofs.parts.variables_of.Goals as goal

pub loop-i-preserved : goal.loop-i-preserved
loop-i-preserved c =
    rw (c.in_ok-push.ensures.ok, c.variable_of.ensures) (variable_more c.args.raws.now c.args.names.now c.loop-i.i _ c.index-names-i.result c.loop-i.variables (omega arith) c.requires c.index-names-i.is c.loop-i.invariant)
