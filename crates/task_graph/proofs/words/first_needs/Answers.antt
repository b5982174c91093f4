-- No words, and that of one cell more.
use Rattle.std.proofs.Common.{sym, ap, ◌++◌, ◌∷◌, [], ◌∙◌}
use Rattle.rcp_base.proofs.TableLaws.{table_none}
use Rattle.task_graph.proofs.Growth.{grown}
use Rattle.task_graph.proofs.words.first_needs.Goals as goal

pub loop-cell-init : goal.loop-cell-init
loop-cell-init c = c.new-needs.ensures.items ∙ sym (table_none _)

pub loop-cell-preserved : goal.loop-cell-preserved
loop-cell-preserved c = grown _ _ _ _ c.loop-cell.invariant (c.in_ok-push.ensures.items ∙ ap (λ word. c.loop-cell.needs.items ++ word ∷ []) c.bit_of.ensures)
