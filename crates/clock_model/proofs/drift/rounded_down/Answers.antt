use Rattle.std.proofs.Common.{arith}
use Rattle.std.proofs.lemmas.Int.{ints}
use Rattle.clock_model.proofs.DriftLemmas.{rounded_down_back, rounded_down-range}
use Rattle.clock_model.proofs.drift.rounded_down.Goals as goal

pub returns-clause-value : goal.returns-clause-value
returns-clause-value c = omega (arith, ints, c.div_euclid.ensures, rounded_down_back c.args.x c.args.ppm c.requires.span c.requires.rate)

pub returns-clause-range : goal.returns-clause-range
returns-clause-range c =
    let back = rounded_down_back c.args.x c.args.ppm c.requires.span c.requires.rate in
    let range = rounded_down-range c.args.x c.args.ppm c.requires.span c.requires.rate in
    (omega (arith, ints, back, range), omega (arith, ints, back, range))
