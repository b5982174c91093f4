use Rattle.std.proofs.Common.{ap, ◌∙◌}
use Rattle.std.proofs.lemmas.Result.{err_from_is_err_and}
use Rattle.rcp_base.proofs.WritingLaws.{writes_nothing}
use Rattle.fault_journal.specs.Telling.{history_in}
use Rattle.rcp_top.proofs.events.write_events.Goals as goal

pub returns-in_err-run : goal.returns-in_err-run
returns-in_err-run g c answers told =
    let p = err_from_is_err_and c.from_residual.result c.from_residual.ensures.1 in
    rw (p.1, p.2) (writes_nothing (g.S.Sink.state c.args.out.now) _)

pub returns : goal.returns
returns g c answers told =
    let journal = c.requires.journal in
    let run = c.in_ok-run.ensures in
    let block = ap (λ timed. timed.block) run.layer ∙ c.new.ensures.block in
    c.event_lines.ensures.text (history_in c.args.plan.now c.args.journal.now) answers journal.tells journal.history_of_plan (ap g.B.Stepped.answers block ∙ told)
