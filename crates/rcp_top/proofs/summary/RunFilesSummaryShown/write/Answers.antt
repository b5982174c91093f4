use Rattle.std.proofs.lemmas.Result.{err_from_is_err_and}
use Rattle.rcp_base.proofs.WritingLaws.{writes_nothing}
use Rattle.rcp_top.proofs.summary.RunFilesSummaryShown.write.Goals as goal

pub returns-in_err-da : goal.returns-in_err-da
returns-in_err-da g c text shows =
    let p = err_from_is_err_and c.from_residual.result c.from_residual.ensures.1 in
    rw (p.1, p.2) (writes_nothing (g.S.Sink.state c.args.out.now) _)
