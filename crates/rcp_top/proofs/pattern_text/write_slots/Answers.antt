-- The line of a slot is the next one.
use Rattle.std.proofs.Common.{List, ℕ, subst}
use Rattle.rcp_base.specs.Adding.{Adds}
use Rattle.rcp_base.proofs.AddingLaws.{adds_then}
use Rattle.vote_pattern.specs.Votes.{votes_at}
use Rattle.trace_text.specs.PlanLines.{slot_line}
use Rattle.rcp_top.specs.PatternText.{slot_lines}
use Rattle.rcp_top.proofs.CheckLemmas.{slot_lines_more}
use Rattle.rcp_top.proofs.pattern_text.write_slots.Goals as goal

pub loop-slot-preserved : goal.loop-slot-preserved
loop-slot-preserved g c =
    let votes = votes_at c.args.pattern.now in
    let slot = c.loop-slot.slot in
    let line = slot_line c.args.plan.now.cells slot (votes slot) in
    let P : List ℕ → Type 0 = Adds (g.S.Sink.state c.args.out.now) (g.S.Sink.state c.add_made-so_far.new.out) c.args.so_far c.add_made-so_far.result in
    subst P (slot_lines_more c.args.plan.now.cells votes slot)
    (adds_then _ _ _ _ _ _ (slot_lines c.args.plan.now.cells votes slot) line c.loop-slot.invariant (c.add_made-so_far.ensures line c.slot_votes.ensures))
