use Rattle.std.proofs.Common.{ap, arith}
use Rattle.std.proofs.lemmas.Int.{ints}
use Rattle.rcp_model.specs.TimingRules.{drift_of}
use Rattle.clock_model.proofs.DriftLemmas.{back}
use Rattle.clock_model.proofs.rules.arrival_need.Goals as goal

pub returns : goal.returns
returns c =
    let timing = c.args.timing.now in
    let drift = ap (drift_of timing) (back timing.compute c.requires.compute) in
    omega (arith, ints, drift)
