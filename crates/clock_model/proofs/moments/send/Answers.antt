use Rattle.std.proofs.Common.{arith}
use Rattle.std.proofs.lemmas.Int.{ints}
use Rattle.rcp_model.specs.Moments.{send_tick}
use Rattle.clock_model.proofs.DriftLemmas.{back}
use Rattle.clock_model.proofs.MomentsLemmas.{moment_back, send_tick-range}
use Rattle.clock_model.proofs.moments.send.Goals as goal

pub returns-clause-value : goal.returns-clause-value
unfolding send_tick
returns-clause-value c =
    let timing = c.args.timing.now in
    let moment = moment_back timing c.args.frame c.args.skew c.args.rate _ timing.compute c.ranges.skew c.ranges.rate
    (back timing.compute c.requires.clock.begins.in_range.compute) in
    omega (arith, ints, moment)

pub returns-clause-range : goal.returns-clause-range
returns-clause-range c =
    let value = returns-clause-value c in
    let range = send_tick-range c.args.timing.now c.args.frame c.args.skew c.args.rate c.requires.clock c.requires.rules in
    (omega (arith, ints, value, range), omega (arith, ints, value, range))
