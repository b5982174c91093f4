use Rattle.std.proofs.Common.{SFits, arith, rules, w64, ◌∙◌}
use Rattle.std.proofs.lemmas.Int.{to_z-of_z}
use Rattle.clocked_layer.proofs.ClockLemmas.{all_come}
use Rattle.clocked_layer.proofs.ticks.quiet_tick.Goals as goal

pub tick_of-requires-clause-replica : goal.tick_of-requires-clause-replica
tick_of-requires-clause-replica c =
    let of = c.requires.of in omega (arith, of.1.some_replicas, of.3.tables.replicas)

pub returns-then-is_quiet : goal.returns-then-is_quiet
returns-then-is_quiet c =
    let fits : SFits w64 c.tick_of.result = search rules in
    all_come c.args.timing.now c.args.frame c.args.input.now c.args.moment _
    c.quiet_frames_are_alike.ensures c.requires.of (c.is_quiet.ensures c.if-is_quiet.true)
    (λ plan timing. to_z-of_z w64 c.tick_of.result fits ∙ c.tick_of.ensures plan timing)
