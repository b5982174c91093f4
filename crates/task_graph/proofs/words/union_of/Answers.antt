-- The first cell of what is left of the mask joins the union and leaves the mask, and at last nothing is left.
use Rattle.task_graph.proofs.BitLemmas.{less_without}
use Rattle.task_graph.proofs.NeedLemmas.{one_joins, none_left}
use Rattle.task_graph.proofs.words.union_of.Goals as goal

pub loop-cell-smaller : goal.loop-cell-smaller
loop-cell-smaller c = less_without c.loop-cell.rest c.without_bit-rest.result c.in-Some.cell c.in-Some.ensures.passes c.without_bit-rest.ensures

pub loop-cell-preserved : goal.loop-cell-preserved
loop-cell-preserved c =
    one_joins c.args.needs.now c.args.mask c.loop-cell.union c.loop-cell.rest c.without_bit-rest.result c.in-Some.cell c.word_at-union.result
    c.loop-cell.invariant c.in-Some.ensures.passes c.without_bit-rest.ensures c.word_at-union.ensures

pub returns : goal.returns
returns c = none_left c.args.needs.now c.args.mask c.loop-cell.union c.loop-cell.rest c.loop-cell.invariant c.in_default.ensures
