use Rattle.trace_text.specs.Refusals.{unreadable_line}
use Rattle.rcp_top.proofs.EndingLemmas.{ends_unreadable}
use Rattle.rcp_top.proofs.shown.finish.Goals as goal

pub returns-in-Err-Unreadable-clause-ends : goal.returns-in-Err-Unreadable-clause-ends
returns-in-Err-Unreadable-clause-ends g c =
    let word = c.in-Err-Unreadable.word in
    rw c.end-in-Err-Unreadable.ensures (ends_unreadable g.T.Shown.shows c.args.found word _ _ c.send.result (rw c.in-Err-Unreadable.field-0-is at c.in-Err-Unreadable.is)
    (c.send.ensures (unreadable_line word.now) (rw c.in-Err-Unreadable.field-0-is at c.unreadable.ensures)))
