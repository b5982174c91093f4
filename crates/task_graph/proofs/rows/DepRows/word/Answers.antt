use Rattle.std.proofs.Common.{ap, ◌∙◌, nat_lt}
use Rattle.task_graph.proofs.WordLemmas.{asked_all}
use Rattle.task_graph.proofs.rows.DepRows.word.Goals as goal

pub returns : goal.returns
returns c =
    asked_all _ c.args.self.now c.args.slot c.args.cell c.index-needed.result.now c.bits_below.result c.self.view_is
    c.requires.slot c.requires.cell c.self.invariant.0 c.index-needed.ensures
    (λ i. c.bits_below.ensures i ∙ ap (λ rows. nat_lt i rows.cells) c.self.view_is)
