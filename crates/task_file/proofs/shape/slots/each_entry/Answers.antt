-- Each value that is read adds to the entries so far, and a fault of one is the whole's.
use Rattle.std.proofs.Common.{arith}
use Rattle.std.proofs.lemmas.Result.{err_from_is_err_and}
use Rattle.toml.specs.View.{view}
use Rattle.rcp_base.proofs.ReaderLaws.{reads_none, reads_more, reads_stop, reads_all}
use Rattle.task_file.specs.Items.{entry_of}
use Rattle.task_file.proofs.shape.slots.each_entry.Goals as goal

pub loop-j-init : goal.loop-j-init
loop-j-init c = rw c.new-entries.ensures (reads_none view (λ entry. entry.now) (entry_of c.args.i c.args.at) c.args.values.now)

pub returns-in_err-entry : goal.returns-in_err-entry
returns-in_err-entry c =
    let p = err_from_is_err_and c.from_residual.result c.from_residual.ensures.1 in
    rw (p.1, p.2) (reads_stop _ _ _ _ _ _ _ _ _ (omega arith) c.index-values-j.is c.loop-j.invariant c.in_err-entry.ensures)

pub loop-j-preserved : goal.loop-j-preserved
loop-j-preserved c =
    rw c.in_ok-push.ensures.ok
    (reads_more _ _ _ _ _ _ _ _ (omega arith) c.index-values-j.is c.loop-j.invariant c.in_ok-entry.ensures)

pub returns : goal.returns
returns c = reads_all _ _ _ _ _ _ c.loop-j-test.false c.loop-j.invariant
