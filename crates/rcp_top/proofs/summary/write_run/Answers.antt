-- The recovery length, and then what the frames amount to.
use Rattle.std.proofs.Common.{ℕ, subst}
use Rattle.std.proofs.lemmas.Result.{err_from_is_err_and}
use Rattle.rcp_base.specs.Writing.{Writes}
use Rattle.rcp_base.proofs.WritingLaws.{writes_less, writes_then}
use Rattle.fault_journal.specs.Telling.{history_in}
use Rattle.trace_text.specs.declared.label.Label.TheVariants as label
use Rattle.trace_text.specs.Lines.{count_line}
use Rattle.rcp_top.specs.Summary.{sum_text, summary_text}
use Rattle.rcp_top.proofs.summary.write_run.Goals as goal

pub returns-in_err-write_all : goal.returns-in_err-write_all
unfolding summary_text
returns-in_err-write_all g c =
    let p = err_from_is_err_and c.from_residual.result c.from_residual.ensures.1 in
    let plan = c.args.plan.now in
    rw (p.1, p.2) (writes_less _ _ c.in_err-write_all.field-0.0 (count_line label.Recovery c.args.length)
    (sum_text plan c.args.length (history_in plan c.args.journal.now)) (rw c.count.ensures at c.in_err-write_all.ensures))

pub returns : goal.returns
unfolding summary_text
returns g c =
    let plan = c.args.plan.now in
    let journal = c.requires.journal in
    let history = history_in plan c.args.journal.now in
    let P : ℕ → Type 0 = λ n. Writes (g.S.Sink.state c.write_all.new.self) (g.S.Sink.state c.summary_lines.new.out) c.summary_lines.result (sum_text plan n history) in
    writes_then _ _ _ c.in_ok-write_all.field-0 c.summary_lines.result (count_line label.Recovery c.args.length) (sum_text plan c.args.length history)
    (rw c.count.ensures at c.in_ok-write_all.ensures) (subst P c.requires.length (c.summary_lines.ensures.text history journal.tells journal.history_of_plan))
