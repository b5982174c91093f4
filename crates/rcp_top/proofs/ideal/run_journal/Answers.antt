use Rattle.std.proofs.lemmas.Result.{err_from_is_err_and}
use Rattle.rcp_base.proofs.WritingLaws.{writes_nothing}
use Rattle.fault_journal.specs.Telling.{history_in}
use Rattle.rcp_top.proofs.ideal.run_journal.Goals as goal

pub returns : goal.returns
returns g c =
    let journal = c.requires.journal in
    (rw c.parts.ensures.parts at c.run_frames.ensures) (history_in c.args.plan.now c.args.journal.now) journal.tells journal.history_of_plan

pub returns-in_err-input : goal.returns-in_err-input
returns-in_err-input g c =
    let p = err_from_is_err_and c.from_residual.result c.from_residual.ensures.1 in
    rw (p.1, p.2) (writes_nothing (g.S.Sink.state c.args.out.now) _)
