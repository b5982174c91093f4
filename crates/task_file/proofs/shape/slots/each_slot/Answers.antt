-- Each value that is read adds to the slots so far, and a fault of one is the whole's.
use Rattle.std.proofs.Common.{arith}
use Rattle.std.proofs.lemmas.Result.{err_from_is_err_and}
use Rattle.toml.specs.View.{view}
use Rattle.rcp_base.proofs.ReaderLaws.{reads_none, reads_more, reads_stop, reads_all}
use Rattle.task_file.specs.inner.SectionViews.{slot_view}
use Rattle.task_file.specs.Items.{slot_of}
use Rattle.task_file.proofs.shape.slots.each_slot.Goals as goal

pub loop-i-init : goal.loop-i-init
loop-i-init c = rw c.new-slots.ensures (reads_none view slot_view slot_of c.args.values.now)

pub returns-in_err-slot : goal.returns-in_err-slot
returns-in_err-slot c =
    let p = err_from_is_err_and c.from_residual.result c.from_residual.ensures.1 in
    rw (p.1, p.2) (reads_stop _ _ _ _ _ _ _ _ _ (omega arith) c.index-values-i.is c.loop-i.invariant c.in_err-slot.ensures)

pub loop-i-preserved : goal.loop-i-preserved
loop-i-preserved c =
    rw c.in_ok-push.ensures.ok
    (reads_more _ _ _ _ _ _ _ _ (omega arith) c.index-values-i.is c.loop-i.invariant c.in_ok-slot.ensures)

pub returns : goal.returns
returns c = reads_all _ _ _ _ _ _ c.loop-i-test.false c.loop-i.invariant
