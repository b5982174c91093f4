use Rattle.std.proofs.Common.{SFits, rules, w64, ◌∙◌}
use Rattle.std.proofs.lemmas.Int.{to_z-of_z}
use Rattle.clock_model.specs.Order.{block_begin}
use Rattle.clocked_layer.proofs.ClockLemmas.{all_arrive}
use Rattle.clocked_layer.proofs.ticks.block_ticks.Goals as goal

pub returns : goal.returns
unfolding block_begin
returns c =
    let fits : SFits w64 c.end_tick.result = search rules in
    record {
      end = λ plan s. to_z-of_z w64 c.end_tick.result fits ∙ c.end_tick.ensures plan s;
      arrival = all_arrive c.args.setting.now c.args.frame c.args.input.now _
          c.quiet_frames_are_alike.ensures c.quiet_arrival.ensures;
    }
