-- A clash of a slot is that of the slots, and a slot without one is passed.
use Rattle.std.proofs.Common.{arith}
use Rattle.std.proofs.lemmas.Result.{err_from_is_err_and}
use Rattle.task_file.proofs.ClashLemmas.{slot_passed, runs_clash, votes_clash}
use Rattle.task_file.proofs.clashes.check_slots.Goals as goal

pub returns-in_err-check_tasks : goal.returns-in_err-check_tasks
returns-in_err-check_tasks c =
    let p = err_from_is_err_and c.from_residual.result c.from_residual.ensures.1 in
    rw (p.1, p.2) (runs_clash c.args.tasks.now c.args.slots.now c.loop-i.i c.index-slots-i.result c.in_err-check_tasks.field-0.0 (omega arith) c.index-slots-i.is c.loop-i.invariant
    (rw c.as_slice.ensures at c.in_err-check_tasks.ensures))

pub returns-in_err-check_votes : goal.returns-in_err-check_votes
returns-in_err-check_votes c =
    let p = err_from_is_err_and c.from_residual-in_err-check_votes.result c.from_residual-in_err-check_votes.ensures.1 in
    rw (p.1, p.2) (votes_clash c.args.tasks.now c.args.slots.now c.loop-i.i c.index-slots-i.result c.in_err-check_votes.field-0.0 (omega arith) c.index-slots-i.is c.loop-i.invariant
    (rw c.as_slice.ensures at c.in_ok-check_tasks.ensures) (rw c.as_slice-in-loop-i.ensures at c.in_err-check_votes.ensures))

pub loop-i-preserved : goal.loop-i-preserved
loop-i-preserved c =
    slot_passed c.args.tasks.now c.args.slots.now c.loop-i.i c.index-slots-i.result (omega arith) c.index-slots-i.is c.loop-i.invariant
    (rw c.as_slice.ensures at c.in_ok-check_tasks.ensures) (rw c.as_slice-in-loop-i.ensures at c.in_ok-check_votes.ensures)
