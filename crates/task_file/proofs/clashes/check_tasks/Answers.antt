-- A task that runs again or sets a cell again is the clash, and any other is passed.
use Rattle.std.proofs.Common.{inl, inr, sym, ◌∙◌, arith}
use Rattle.task_file.proofs.ClashLemmas.{task_clashes, task_passes}
use Rattle.task_file.proofs.clashes.check_tasks.Goals.{then-has_number-via-then-has_number, then-has_number-via-else-has_number+then-sets_again}
use Rattle.task_file.proofs.clashes.check_tasks.Goals as goal

pub returns-then-has_number : goal.returns-then-has_number
returns-then-has_number c =
    rw c.clash.ensures (task_clashes c.args.tasks.now c.args.i c.loop-j.set c.loop-j.j c.args.numbers.now c.rows_of-rows.result.now (omega arith) c.loop-j.invariant c.rows_of-rows.ensures
    (elim c.then-has_number.branch [
      | then-has_number-via-then-has_number w ↦ inl (sym c.has_number.ensures ∙ w.if-has_number.true)
      | then-has_number-via-else-has_number+then-sets_again w ↦ inr (rw w.as_slice.ensures at (sym w.sets_again.ensures ∙ w.if-sets_again.true))
    ]))

pub loop-j-preserved : goal.loop-j-preserved
loop-j-preserved c =
    rw c.in_ok-add_cells.ensures (task_passes c.args.tasks.now c.args.i c.loop-j.set c.loop-j.j c.args.numbers.now c.rows_of-rows.result.now (omega arith) c.loop-j.invariant c.rows_of-rows.ensures
    (sym c.has_number.ensures ∙ c.if-has_number.false) (rw c.as_slice.ensures at (sym c.sets_again.ensures ∙ c.if-sets_again.false)))
