use Rattle.std.proofs.Common.{ap, arith}
use Rattle.std.proofs.lemmas.Int.{ints}
use Rattle.rcp_model.specs.TimingRules.{limit_drift_of}
use Rattle.clock_model.proofs.DriftLemmas.{back_sums}
use Rattle.clock_model.proofs.rules.sync_need.Goals as goal

pub returns : goal.returns
returns c =
    let timing = c.args.timing.now in
    let drift = ap (limit_drift_of timing) (back_sums timing.compute timing.broadcast timing.vote c.requires.compute c.requires.broadcast c.requires.vote) in
    omega (arith, ints, drift)
