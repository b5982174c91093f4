use Rattle.std.proofs.Common.{ap, arith}
use Rattle.std.proofs.lemmas.Int.{ints}
use Rattle.rcp_model.specs.TimingRules.{limit_drift_of}
use Rattle.clock_model.proofs.DriftLemmas.{back, back_twice}
use Rattle.clock_model.proofs.rules.delay_limit.Goals as goal

pub overflow_sub-result-2 : goal.overflow_sub-result-2
overflow_sub-result-2 c = omega (arith, ints, back_twice c.args.timing.now.skew_limit (omega (arith, ints)), back_twice c.limit_drift.result c.limit_drift.ensures.range)

pub overflow_sub-result-3 : goal.overflow_sub-result-3
overflow_sub-result-3 c = omega (arith, ints, back_twice c.args.timing.now.skew_limit (omega (arith, ints)), back_twice c.limit_drift.result c.limit_drift.ensures.range)

pub returns-clause-value : goal.returns-clause-value
returns-clause-value c =
    let timing = c.args.timing.now in
    let drift = ap (limit_drift_of timing) (back timing.compute c.requires.compute) in
    omega (arith, ints, drift)

pub returns-clause-range : goal.returns-clause-range
returns-clause-range c = omega (arith, ints, back_twice c.args.timing.now.skew_limit (omega (arith, ints)), back_twice c.limit_drift.result c.limit_drift.ensures.range)
