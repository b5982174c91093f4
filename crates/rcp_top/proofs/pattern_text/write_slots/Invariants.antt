-- The lines of the slots so far were added.
use Rattle.rcp_base.specs.Adding.{Adds}
use Rattle.vote_pattern.specs.Votes.{votes_at}
use Rattle.rcp_top.specs.PatternText.{slot_lines}
use Rattle.rcp_top.proofs.pattern_text.write_slots.Given as goal

abbrev pub invariant-loop-slot : goal.invariant-loop-slot
invariant-loop-slot g l =
    Adds (g.S.Sink.state l.initial.out) (g.S.Sink.state l.out) l.initial.so_far l.so_far (slot_lines l.plan.cells (votes_at l.pattern) l.slot)
