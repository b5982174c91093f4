use Rattle.std.proofs.Common.{◌∙◌}
use Rattle.task_graph.proofs.WordLemmas.{asked}
use Rattle.task_graph.proofs.rows.DepRows.needs.Goals as goal

pub returns : goal.returns
returns c =
    c.has_cell.ensures
    ∙ asked _ c.args.self.now c.args.slot c.args.cell c.args.from c.index-word.result.now c.self.view_is c.requires.slot c.requires.cell c.requires.from c.self.invariant.0 c.index-word.ensures
