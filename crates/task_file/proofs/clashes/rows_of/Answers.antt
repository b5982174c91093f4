-- The rows of the task at a number, or none past the last.
use Rattle.std.proofs.Common.{ap, ◌∙◌}
use Rattle.task_file.specs.Slots.{cells_set}
use Rattle.task_file.proofs.ClashLemmas.{cells_at, no_cells_past}
use Rattle.task_file.proofs.clashes.rows_of.Goals as goal

pub returns-in-Some : goal.returns-in-Some
returns-in-Some c =
    let found = c.in-Some.ensures.lookup in
    ap cells_set (c.as_slice.ensures ∙ ap (λ task. task.sets) found.1) ∙ cells_at c.args.tasks.now c.args.number c.in-Some.task.now found.3.0

pub returns-in-None : goal.returns-in-None
returns-in-None c = no_cells_past c.args.tasks.now c.args.number c.in-None.ensures.lookup.3
