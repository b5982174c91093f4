use Rattle.std.proofs.Common.{◌≡◌, ◌<◌, length, sym, ap, ◌∙◌, subst, arith}
use Rattle.event_queue.specs.Agenda.{EventQueue, InTurn, due, inserted, left_in, with_event}
use Rattle.event_queue.proofs.AgendaLemmas.{added, length-inserted}
use Rattle.event_queue.proofs.TurnLaws.{inserted_turn}
use Rattle.event_queue.proofs.agenda.Agenda.add.Goals as goal

has_room : (c : goal.After-put_in) → length (left_in c.self.inside) < c.self.inside.capacity
has_room c = omega (arith, c.requires, ap (λ (q : EventQueue). q.spare) c.self.view_is)

kept : (c : goal.After-put_in) → c.as_slice.result.now ≡ left_in c.self.inside
kept c = c.as_slice.ensures.value ∙ c.remove_front.ensures.events

is_added : (c : goal.After-put_in)
    → c.put_in.new.events.items ≡ inserted c.args.event (left_in c.self.inside)
is_added c = c.put_in.ensures.events ∙ ap (inserted c.args.event) c.remove_front.ensures.events

pub invariant_of-self : goal.invariant_of-self
invariant_of-self c = record {
  small = c.self.invariant.small;
  turn = subst InTurn (sym (is_added c)) (inserted_turn c.args.event _ c.self.invariant.turn);
  count =
      c.due_with-self-inside.ensures ∙ ap (λ es. due (inserted c.args.event es)) (kept c)
      ∙ ap due (sym (is_added c));
  front = omega arith;
  fits =
      omega (
        arith,
        has_room c,
        ap length (is_added c),
        length-inserted c.args.event (left_in c.self.inside),
      );
  room =
      omega (
        arith,
        c.put_in.ensures.capacity,
        c.remove_front.ensures.capacity,
        c.self.invariant.room,
      );
}

pub returns : goal.returns
returns c =
    added c.self.inside.capacity (left_in c.self.inside) c.put_in.new.events.items c.args.event
    (is_added c)
    ∙ ap (λ q. with_event q c.args.event) c.self.view_is
