use Rattle.std.proofs.Common.{ap, arith}
use Rattle.std.proofs.lemmas.Int.{ints}
use Rattle.rcp_model.specs.TimingRules.{drift_of}
use Rattle.clock_model.proofs.DriftLemmas.{back, back_sum}
use Rattle.clock_model.proofs.rules.broadcast_need.Goals as goal

pub returns : goal.returns
returns c =
    let timing = c.args.timing.now in
    let one = ap (drift_of timing) (back timing.compute c.requires.compute) in
    let two = ap (drift_of timing) (back_sum timing.compute timing.broadcast c.requires.compute c.requires.broadcast) in
    omega (arith, ints, one, two)
