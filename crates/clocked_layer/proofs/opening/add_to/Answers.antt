use Rattle.std.proofs.Common.{ap, arith, ◌∙◌}
use Rattle.std.specs.List.{flat_map, range_with_len}
use Rattle.clocked_layer.proofs.OpeningLemmas.{added_more}
use Rattle.clocked_layer.specs.Events.{events_from}
use Rattle.event_queue.specs.Agenda.{in_turn_from}
use Rattle.clocked_layer.proofs.opening.add_to.Goals as goal

pub loop-sender-preserved : goal.loop-sender-preserved
loop-sender-preserved c =
    let k = c.loop-sender.invariant in
    let e = c.add_from.ensures in
    record {
      room = record {
        few = omega (arith, k.room.few, e.room.few);
        room = omega (arith, k.room.room, e.room.room);
      };
      added = λ plan state s at late.
          added_more (events_from plan state c.args.input.now c.args.receiver) _
          c.loop-sender.agenda.left c.add_from.new.agenda.left c.loop-sender.sender
          (k.added plan state s at late) (e.events plan state s at late);
    }

pub returns-clause-events : goal.returns-clause-events
returns-clause-events c plan state s at late =
    c.loop-sender.invariant.added plan state s at late
    ∙ ap (λ n. in_turn_from c.args.agenda.now.left
    (flat_map (events_from plan state c.args.input.now c.args.receiver) (range_with_len 0 n)))
    (omega (
      arith,
      s.replicas,
      c.replicas-sender-end.ensures,
      c.loop-sender-test.false,
      c.loop-sender.auto,
    ))
