-- Each value that is read adds to the texts so far, and a fault of one is the whole's.
use Rattle.std.proofs.Common.{arith}
use Rattle.std.proofs.lemmas.Result.{err_from_is_err_and}
use Rattle.toml.specs.View.{view}
use Rattle.rcp_base.proofs.ReaderLaws.{reads_none, reads_more, reads_stop, reads_all}
use Rattle.task_file.specs.inner.SectionViews.{text_view}
use Rattle.task_file.specs.Items.{named_text_of}
use Rattle.task_file.proofs.shape.texts.each_text.Goals as goal

pub loop-i-init : goal.loop-i-init
loop-i-init c = rw c.new-texts.ensures (reads_none view text_view (named_text_of c.args.at c.args.text_key c.args.word.now) c.args.values.now)

pub returns-in_err-text : goal.returns-in_err-text
returns-in_err-text c =
    let p = err_from_is_err_and c.from_residual.result c.from_residual.ensures.1 in
    rw (p.1, p.2) (reads_stop _ _ _ _ _ _ _ _ _ (omega arith) c.index-values-i.is c.loop-i.invariant c.in_err-text.ensures)

pub loop-i-preserved : goal.loop-i-preserved
loop-i-preserved c =
    rw c.in_ok-push.ensures.ok
    (reads_more _ _ _ _ _ _ _ _ (omega arith) c.index-values-i.is c.loop-i.invariant c.in_ok-text.ensures)

pub returns : goal.returns
returns c = reads_all _ _ _ _ _ _ c.loop-i-test.false c.loop-i.invariant
