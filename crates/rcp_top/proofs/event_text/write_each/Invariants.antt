-- The lines of the events so far were added.
use Rattle.std.proofs.Common.{flat_map, take}
use Rattle.rcp_base.specs.Adding.{Adds}
use Rattle.trace_text.specs.Lines.{event_line}
use Rattle.rcp_top.proofs.event_text.write_each.Given as goal

abbrev pub invariant-loop-event : goal.invariant-loop-event
invariant-loop-event g l =
    Adds (g.S.Sink.state l.initial.out) (g.S.Sink.state l.out) l.initial.so_far l.so_far (flat_map event_line (take l.event-index l.events))
