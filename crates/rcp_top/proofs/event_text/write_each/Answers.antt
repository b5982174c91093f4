-- The line of an event is the next one.
use Rattle.std.proofs.Common.{List, ℕ, flat_map, take, subst}
use Rattle.rcp_base.specs.Adding.{Adds}
use Rattle.rcp_base.proofs.AddingLaws.{adds_then}
use Rattle.trace_text.specs.Lines.{event_line}
use Rattle.rcp_top.proofs.LineLemmas.{lines_more}
use Rattle.rcp_top.proofs.event_text.write_each.Goals as goal

pub loop-event-preserved : goal.loop-event-preserved
loop-event-preserved g c =
    let events = c.args.events.now in
    let i = c.loop-event.event-index in
    let P : List ℕ → Type 0 = Adds (g.S.Sink.state c.args.out.now) (g.S.Sink.state c.add-so_far.new.out) c.args.so_far c.add-so_far.result in
    subst P (lines_more event_line events i _ c.loop-event-test.true)
    (adds_then _ _ _ _ _ _ (flat_map event_line (take i events)) _ c.loop-event.invariant (rw c.event.ensures at c.add-so_far.ensures))
