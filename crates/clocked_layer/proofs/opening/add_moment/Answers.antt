use Rattle.std.proofs.Common.{ap, arith, sym, ◌∙◌}
use Rattle.std.specs.List.{flat_map, range_with_len}
use Rattle.clocked_layer.proofs.OpeningLemmas.{added_more, same_rows}
use Rattle.clocked_layer.specs.Opening.{moment_at}
use Rattle.event_queue.specs.Agenda.{in_turn_from}
use Rattle.clocked_layer.proofs.opening.add_moment.Goals as goal

pub loop-replica-preserved : goal.loop-replica-preserved
loop-replica-preserved c =
    let k = c.loop-replica.invariant in
    let e = c.put_moment.ensures in
    record {
      room = record {
        few = omega (arith, k.room.few, e.room.few);
        room = omega (arith, k.room.room, e.room.room);
      };
      added = λ plan s.
          added_more (moment_at plan c.args.frame c.args.input.now c.args.moment) _
          c.loop-replica.agenda.left c.put_moment.new.agenda.left c.loop-replica.replica
          (k.added plan s)
          (e.events plan (sym s.timing ∙ sym c.requires.timing)
          (same_rows _ _ c.requires.of plan s));
    }

pub returns-clause-events : goal.returns-clause-events
returns-clause-events c plan s =
    c.loop-replica.invariant.added plan s
    ∙ ap (λ n. in_turn_from c.args.agenda.now.left
    (flat_map (moment_at plan c.args.frame c.args.input.now c.args.moment) (range_with_len 0 n)))
    (omega (
      arith,
      s.replicas,
      c.replicas-replica-end.ensures,
      c.loop-replica-test.false,
      c.loop-replica.auto,
    ))
