use Rattle.std.proofs.lemmas.Result.{err_from_is_err_and}
use Rattle.rcp_base.proofs.WritingLaws.{writes_nothing}
use Rattle.rcp_top.specs.Events.{answers_of}
use Rattle.rcp_top.specs.declared.form.EventOrder.TheVariants as order
use Rattle.rcp_top.proofs.events.write_last.Goals as goal

pub returns-in_err-block : goal.returns-in_err-block
returns-in_err-block g c =
    let p = err_from_is_err_and c.from_residual.result c.from_residual.ensures.1 in
    rw (p.1, p.2) (writes_nothing (g.S.Sink.state c.args.out.now) _)

pub returns : goal.returns
returns g c = c.write_events.ensures (answers_of order.Last) c.in_ok-block.ensures.answers
