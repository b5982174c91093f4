use Rattle.std.proofs.Common.{SFits, ap, ap₂, rules, subst, sym, w64, ◌<◌, ◌∙◌}
use Rattle.std.proofs.lemmas.Int.{to_z-of_z}
use Rattle.clocked_layer.proofs.OpeningLemmas.{moment_added, one_added}
use Rattle.clocked_layer.specs.Events.{own_event}
use Rattle.event_queue.specs.Agenda.{EventQueue, inserted}
use Rattle.clocked_layer.proofs.opening.add_moment_at.Goals as goal

pub returns-then-not-down-clause-events : goal.returns-then-not-down-clause-events
returns-then-not-down-clause-events c plan timing replicas =
    let fits : SFits w64 c.tick_of-tick.result = search rules in
    moment_added plan c.args.frame c.args.input.now c.args.moment c.args.replica
    c.args.agenda.now.left c.add.new.self.left
    (subst (λ n. c.args.replica < n) (sym replicas) c.requires.replica)
    (sym c.down.ensures ∙ c.if-not-down.true)
    (ap (λ (q : EventQueue). q.left) c.add.ensures
    ∙ ap (λ event. inserted event c.args.agenda.now.left)
    (c.own_event.ensures
    ∙ ap₂ (λ kind tick. own_event kind c.args.frame c.args.replica tick) c.kind_of.ensures
    (to_z-of_z w64 c.tick_of-tick.result fits ∙ c.tick_of-tick.ensures plan timing)))

pub returns-then-not-down-clause-room : goal.returns-then-not-down-clause-room
returns-then-not-down-clause-room c = one_added _ _ _ c.requires.room c.add.ensures
