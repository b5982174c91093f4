use Rattle.trace_text.specs.PlanLines.{pattern_refused_line}
use Rattle.trace_text.specs.Refusals.{task_refused_line, journal_refused_line}
use Rattle.rcp_top.specs.declared.status.Status.TheVariants as status
use Rattle.rcp_top.proofs.EndingLemmas.{ends_after_write}
use Rattle.rcp_top.proofs.shown.write_refusal.Goals as goal

pub returns-in-TaskFile-clause-ends : goal.returns-in-TaskFile-clause-ends
returns-in-TaskFile-clause-ends g c =
    let text = task_refused_line c.in-TaskFile.fault in
    rw (c.in-TaskFile.is, c.end.ensures) (ends_after_write status.TaskRefused text _ _ c.write_all.result (rw c.task_refused.ensures at c.write_all.ensures))

pub returns-in-Pattern-clause-ends : goal.returns-in-Pattern-clause-ends
returns-in-Pattern-clause-ends g c =
    let text = pattern_refused_line c.in-Pattern.plan.cells c.in-Pattern.nodes in
    let line = rw c.as_slice.ensures at c.cycle.ensures in
    rw (c.in-Pattern.is, c.end-in-Pattern.ensures) (ends_after_write status.PatternRefused text _ _ c.send.result (c.send.ensures text line))

pub returns-in-Journal-clause-ends : goal.returns-in-Journal-clause-ends
returns-in-Journal-clause-ends g c =
    let text = journal_refused_line c.in-Journal.fault in
    rw (c.in-Journal.is, c.end-in-Journal.ensures) (ends_after_write status.JournalRefused text _ _ c.write_all-in-Journal.result (rw c.journal_refused.ensures at c.write_all-in-Journal.ensures))
