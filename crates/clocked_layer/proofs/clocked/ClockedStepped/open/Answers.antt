use Rattle.std.proofs.Common.{ap, arith, length, List, refl, subst, sym, ◌∙◌}
use Rattle.event_queue.specs.declared.event.Event.{Event}
use Rattle.clocked_layer.proofs.Ways.{opens}
use Rattle.clocked_layer.specs.Clocked.{IsAfterLog}
use Rattle.clocked_layer.specs.Block.{opened_block}
use Rattle.clocked_layer.proofs.clocked.ClockedStepped.open.Goals as goal

pub returns-clause-timely : goal.returns-clause-timely
returns-clause-timely g c plan state mail rests frame =
    let rules = rests.at.of_plan.setting.rules in
    record {
      ready = rests.ready;
      order = c.moments_keep_order.ensures plan state.done c.args.input.now rules.timing_range
          rules.timing_rules frame;
    }

pub returns-clause-block : goal.returns-clause-block
returns-clause-block g c plan state mail rests frame =
    let rows = c.args.input.now in
    let none = c.clear.ensures.items in
    record {
      shows = c.prepare.ensures.block plan state mail rests.at frame;
      way = subst
          (λ (log : List Event). IsAfterLog plan rows log (opened_block plan state rows mail))
          (sym none)
          (record {
            state = state;
            mail = mail;
            way = opens plan state rows mail
                (returns-clause-timely g c plan state mail rests frame);
            is = refl;
          });
      left = c.prepare.ensures.events plan state mail rests.at;
      all = c.prepare.ensures.room ∙ rests.spare;
      few = omega (arith, ap (λ (log : List Event). length log) none);
      room = omega (arith, rests.room, c.clear.ensures.capacity);
    }
