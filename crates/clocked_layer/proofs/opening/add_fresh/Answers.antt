use Rattle.std.proofs.Common.{SFits, Some, ap, false, refl, rules, sym, true, w64, ◌∙◌}
use Rattle.std.proofs.lemmas.Int.{to_z-of_z}
use Rattle.clocked_layer.proofs.OpeningLemmas.{fresh_added, one_added, stays_added}
use Rattle.event_queue.specs.Agenda.{EventQueue, inserted}
use Rattle.clocked_layer.proofs.opening.add_fresh.Goals as goal

pub returns-then-tick-ticks-clause-room : goal.returns-then-tick-ticks-clause-room
returns-then-tick-ticks-clause-room c = one_added _ _ _ c.requires.room c.add.ensures

pub returns-then-tick-ticks-clause-events : goal.returns-then-tick-ticks-clause-events
returns-then-tick-ticks-clause-events c plan state s at =
    let f : SFits w64 c.in-Some.tick = search rules in
    let g : SFits w64 c.args.ticks.now.end = search rules in
    fresh_added plan state c.args.input.now c.args.frame c.args.receiver c.args.sender
    c.args.agenda.now.left c.add.new.self.left _ _ true at
    (ap Some (to_z-of_z w64 c.in-Some.tick f) ∙ sym c.in-Some.is ∙ c.arrival_in.ensures plan s)
    (to_z-of_z w64 c.args.ticks.now.end g ∙ c.requires.ticks.end plan s)
    c.if-tick-ticks.true
    (ap (λ (q : EventQueue). q.left) c.add.ensures
    ∙ ap (λ event. inserted event c.args.agenda.now.left) c.delivery.ensures)

pub returns-else-tick-ticks-clause-events : goal.returns-else-tick-ticks-clause-events
returns-else-tick-ticks-clause-events c plan state s at =
    let f : SFits w64 c.in-Some.tick = search rules in
    let g : SFits w64 c.args.ticks.now.end = search rules in
    fresh_added plan state c.args.input.now c.args.frame c.args.receiver c.args.sender
    c.args.agenda.now.left c.args.agenda.now.left _ _ false at
    (ap Some (to_z-of_z w64 c.in-Some.tick f) ∙ sym c.in-Some.is ∙ c.arrival_in.ensures plan s)
    (to_z-of_z w64 c.args.ticks.now.end g ∙ c.requires.ticks.end plan s)
    c.if-tick-ticks.false
    refl

pub returns-in_default-clause-events : goal.returns-in_default-clause-events
returns-in_default-clause-events c plan state s at =
    stays_added plan state c.args.input.now c.args.frame c.args.receiver c.args.sender
    c.args.agenda.now.left at (sym c.in_default.is ∙ c.arrival_in.ensures plan s)
