use Rattle.std.proofs.Common.{◌≡◌, to_z, of_z, w64, arith}
use Rattle.std.proofs.lemmas.Int.{ints, to_z-of_z}
use Rattle.rcp_model.specs.Moments.{local_ticks}
use Rattle.rcp_model.specs.Rounding.{parts_rounded_down}
use Rattle.clock_model.proofs.MomentsLemmas.{begin_back}
use Rattle.clock_model.proofs.moments.passed.Goals as goal

pub overflow_add-result : goal.overflow_add-result
overflow_add-result c =
    let begins = begin_back c.args.timing.now c.args.frame c.args.skew c.requires.clock.begins c.ranges.skew in
    omega (arith, ints)

pub overflow_add-result-2 : goal.overflow_add-result-2
overflow_add-result-2 c =
    let begins = begin_back c.args.timing.now c.args.frame c.args.skew c.requires.clock.begins c.ranges.skew in
    omega (arith, ints)

pub returns-clause-value : goal.returns-clause-value
unfolding local_ticks
returns-clause-value c =
    let begins = begin_back c.args.timing.now c.args.frame c.args.skew c.requires.clock.begins c.ranges.skew in
    let parts : parts_rounded_down (to_z w64 (of_z w64 c.args.ticks)) (to_z w64 (of_z w64 c.args.rate)) ≡ parts_rounded_down c.args.ticks c.args.rate =
    rw (to_z-of_z w64 c.args.ticks c.ranges.ticks, to_z-of_z w64 c.args.rate c.ranges.rate) in
    omega (arith, ints)

pub returns-clause-range : goal.returns-clause-range
returns-clause-range c =
    let begins = begin_back c.args.timing.now c.args.frame c.args.skew c.requires.clock.begins c.ranges.skew in
    (omega (arith, ints), omega (arith, ints))
