use Rattle.std.proofs.Common.{arith, ◌+ℤ◌}
use Rattle.std.proofs.lemmas.Int.{ints}
use Rattle.rcp_model.specs.Moments.{vote_tick}
use Rattle.clock_model.proofs.DriftLemmas.{back_sum}
use Rattle.clock_model.proofs.MomentsLemmas.{moment_back}
use Rattle.clock_model.proofs.moments.vote.Goals as goal

pub returns-clause-value : goal.returns-clause-value
unfolding vote_tick
returns-clause-value c =
    let timing = c.args.timing.now in
    let ranges = c.requires.begins.in_range in
    let moment = moment_back timing c.args.frame c.args.skew c.args.rate _ (timing.compute +ℤ timing.broadcast) c.ranges.skew c.ranges.rate
    (back_sum timing.compute timing.broadcast ranges.compute ranges.broadcast) in
    omega (arith, ints, moment)
