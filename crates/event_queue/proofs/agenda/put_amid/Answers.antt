use Rattle.std.specs.List.{insert}
use Rattle.std.proofs.lemmas.List.Sorted.{IsPartitionPoint-from_clause}
use Rattle.std.proofs.Common.{◌≡◌, List, length, sym, ap, ◌∙◌, subst, rules, arith}
use Rattle.event_queue.specs.declared.event.Event.{Event}
use Rattle.event_queue.specs.Agenda.{InTurn, inserted}
use Rattle.event_queue.proofs.AgendaLemmas.{made, placed}
use Rattle.event_queue.proofs.TurnLaws.{comes_ahead}
use Rattle.event_queue.proofs.agenda.put_amid.Goals as goal

pub returns-clause-events : goal.returns-clause-events
returns-clause-events c =
    let old : List Event = c.deref.result.now in
    let place = c.partition_point-place.result in
    let same : old ≡ c.args.events.now.items = c.deref.ensures.value in
    placed c.args.event old c.insert.new.self.items place (subst InTurn (sym same) c.requires.turn)
    (omega (arith, c.partition_point-place.ensures.bound, c.args.events.now.ok.0, ap length same))
    (λ parts.
    IsPartitionPoint-from_clause (comes_ahead c.args.event) old place
    c.partition_point-place.ensures.partitioned parts (λ a r q k. search rules))
    (made c.insert.result _ _ _ c.insert.ensures.items
    (c.insert.ensures.succeeds (omega (arith, c.requires.room, c.args.events.now.ok.0)))
    ∙ ap (λ es. insert es place c.args.event) (sym same))
    ∙ ap (inserted c.args.event) same
