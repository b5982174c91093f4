use Rattle.std.proofs.Common.{arith, ◌+ℤ◌}
use Rattle.std.proofs.lemmas.Int.{ints}
use Rattle.rcp_model.specs.Moments.{sync_tick}
use Rattle.clock_model.proofs.DriftLemmas.{back_sums}
use Rattle.clock_model.proofs.MomentsLemmas.{moment_back}
use Rattle.clock_model.proofs.moments.sync.Goals as goal

pub returns-clause-value : goal.returns-clause-value
unfolding sync_tick
returns-clause-value c =
    let timing = c.args.timing.now in
    let ranges = c.requires.begins.in_range in
    let moment = moment_back timing c.args.frame c.args.skew c.args.rate _ (timing.compute +ℤ timing.broadcast +ℤ timing.vote) c.ranges.skew c.ranges.rate
    (back_sums timing.compute timing.broadcast timing.vote ranges.compute ranges.broadcast ranges.vote) in
    omega (arith, ints, moment)
