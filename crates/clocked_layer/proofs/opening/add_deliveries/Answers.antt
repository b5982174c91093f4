use Rattle.std.proofs.Common.{ap, arith, ◌∙◌}
use Rattle.std.specs.List.{flat_map, range_with_len}
use Rattle.clocked_layer.proofs.OpeningLemmas.{added_more}
use Rattle.clocked_layer.specs.Opening.{deliveries_to}
use Rattle.event_queue.specs.Agenda.{in_turn_from}
use Rattle.clocked_layer.proofs.opening.add_deliveries.Goals as goal

pub loop-receiver-preserved : goal.loop-receiver-preserved
loop-receiver-preserved c =
    let k = c.loop-receiver.invariant in
    let e = c.add_to.ensures in
    record {
      room = record {
        few = omega (arith, k.room.few, e.room.few);
        room = omega (arith, k.room.room, e.room.room);
      };
      added = λ plan state s at late.
          added_more (deliveries_to plan state c.args.input.now) _
          c.loop-receiver.agenda.left c.add_to.new.agenda.left c.loop-receiver.receiver
          (k.added plan state s at late) (e.events plan state s at late);
    }

pub returns-clause-events : goal.returns-clause-events
returns-clause-events c plan state s at late =
    c.loop-receiver.invariant.added plan state s at late
    ∙ ap (λ n. in_turn_from c.args.agenda.now.left
    (flat_map (deliveries_to plan state c.args.input.now) (range_with_len 0 n)))
    (omega (
      arith,
      s.replicas,
      c.replicas-receiver-end.ensures,
      c.loop-receiver-test.false,
      c.loop-receiver.auto,
    ))
