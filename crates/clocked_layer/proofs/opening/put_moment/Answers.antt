use Rattle.std.specs.Prelude.{IfSome}
use Rattle.std.proofs.Common.{Option, SFits, ap, ap₂, rules, subst, sym, w64, ℤ, ◌<◌, ◌∙◌}
use Rattle.std.proofs.lemmas.Int.{to_z-of_z}
use Rattle.clocked_layer.proofs.OpeningLemmas.{moment_added, one_added}
use Rattle.clocked_layer.specs.Events.{own_event}
use Rattle.clocked_layer.specs.Opening.{ComeTogether}
use Rattle.event_queue.specs.Agenda.{EventQueue, inserted}
use Rattle.clocked_layer.proofs.opening.put_moment.Goals as goal

pub returns-in-Some-clause-events : goal.returns-in-Some-clause-events
returns-in-Some-clause-events c plan timing replicas =
    let fits : SFits w64 c.in-Some.tick = search rules in
    let rows = c.args.input.now in
    let together = subst
    (λ (o : Option ℤ). IfSome o (ComeTogether c.args.timing.now c.args.frame rows c.args.moment))
    c.in-Some.is c.requires.together in
    moment_added plan c.args.frame rows c.args.moment c.args.replica
    c.args.agenda.now.left c.add.new.self.left
    (subst (λ n. c.args.replica < n) (sym replicas) c.requires.replica)
    (together.up c.args.replica)
    (ap (λ (q : EventQueue). q.left) c.add.ensures
    ∙ ap (λ event. inserted event c.args.agenda.now.left)
    (c.own_event.ensures
    ∙ ap₂ (λ kind tick. own_event kind c.args.frame c.args.replica tick) c.kind_of.ensures
    (to_z-of_z w64 c.in-Some.tick fits ∙ together.comes plan c.args.replica timing)))

pub returns-in-Some-clause-room : goal.returns-in-Some-clause-room
returns-in-Some-clause-room c = one_added _ _ _ c.requires.room c.add.ensures
