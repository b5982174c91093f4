use Rattle.std.specs.List.{remove}
use Rattle.std.proofs.lemmas.List.{take_rest}
use Rattle.std.proofs.Common.{◌≡◌, ◌<◌, drop, slice_get, ap, ◌∙◌, sym, subst, arith}
use Rattle.event_queue.specs.Agenda.{EventQueue, InTurn, due, left_in, without_place}
use Rattle.event_queue.proofs.AgendaLemmas.{removed, place_of, is_left, left_count}
use Rattle.event_queue.proofs.DueLaws.{due_le, due_one_fewer}
use Rattle.event_queue.proofs.TurnLaws.{removed_turn}
use Rattle.event_queue.proofs.agenda.Agenda.take.Goals as goal

pub index-event-requires : goal.index-event-requires
index-event-requires c =
    let below : c.args.i < due (left_in c.self.inside) =
    omega (arith, c.requires, ap (λ (q : EventQueue). due q.left) c.self.view_is) in
    omega (
      arith,
      place_of c.self.inside.taken c.self.inside.events.items c.args.i c.self.invariant.front below,
      c.self.inside.events.ok.0,
    )

pub take_out-self-inside-requires : goal.take_out-self-inside-requires
take_out-self-inside-requires c =
    place_of c.self.inside.taken c.self.inside.events.items c.args.i c.self.invariant.front
    (omega (arith, c.requires, ap (λ (q : EventQueue). due q.left) c.self.view_is))

pub due_without-self-inside-requires-clause-due : goal.due_without-self-inside-requires-clause-due
due_without-self-inside-requires-clause-due c more =
    let left = left_in c.self.inside in
    let below : c.args.i < due left =
    omega (arith, c.requires, ap (λ (q : EventQueue). due q.left) c.self.view_is) in
    omega (
      arith,
      c.self.invariant.count,
      due_one_fewer left c.args.i below (omega (arith, more, c.self.invariant.count)),
      ap due (take_rest c.deref.result.now c.take_out-self-inside.result
          ∙ ap (drop c.take_out-self-inside.result) c.deref.ensures.value
          ∙ c.take_out-self-inside.ensures.left),
    )

below : (c : goal.After-self-2-1) → c.args.i < due (left_in c.self.inside)
below c = omega (arith, c.requires, ap (λ (q : EventQueue). due q.left) c.self.view_is)

taken : (c : goal.After-self-2-1)
    → drop c.take_out-self-inside.result c.take_out-self-inside.new.events.items
    ≡ remove (left_in c.self.inside) c.args.i
taken c = c.take_out-self-inside.ensures.left

pub invariant_of-self : goal.invariant_of-self
invariant_of-self c = record {
  small = c.self.invariant.small;
  turn = subst InTurn (sym (taken c)) (removed_turn _ c.args.i c.self.invariant.turn);
  count =
      c.due_without-self-inside.ensures
      ∙ ap due (take_rest c.deref.result.now c.take_out-self-inside.result
      ∙ ap (drop c.take_out-self-inside.result) c.deref.ensures.value);
  front = c.take_out-self-inside.ensures.front;
  fits = omega (arith, c.take_out-self-inside.ensures.fits, c.self.invariant.fits);
  room = omega (arith, c.take_out-self-inside.ensures.capacity, c.self.invariant.room);
}

pub returns-clause-event : goal.returns-clause-event
returns-clause-event c =
    ap (λ (q : EventQueue). slice_get q.left c.args.i) (sym c.self.view_is)
    ∙ is_left c.self.inside.taken c.self.inside.events.items c.args.i c.index-event.result.now
    (below c) c.index-event.ensures

pub returns-clause-queue : goal.returns-clause-queue
returns-clause-queue c =
    removed c.self.inside.capacity (left_in c.self.inside) _ c.args.i (taken c)
    (omega (arith, below c, due_le (left_in c.self.inside)))
    (omega (
      arith,
      c.self.invariant.fits,
      left_count c.self.inside.taken c.self.inside.events.items c.self.invariant.front,
    ))
    ∙ ap (λ q. without_place q c.args.i) c.self.view_is
