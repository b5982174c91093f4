use Rattle.std.proofs.Common.{arith}
use Rattle.std.proofs.lemmas.Int.{ints}
use Rattle.clock_model.proofs.DriftLemmas.{computed_product}
use Rattle.clock_model.proofs.MomentsLemmas.{IsComputedBegin, begin_computed}
use Rattle.clock_model.proofs.moments.begin.Goals as goal
use Rattle.clock_model.proofs.moments.begin.Goals.{After-frame_length}

-- what is computed of the frame and its length
begun : (c : After-frame_length) → IsComputedBegin c.args.timing.now c.args.frame c.args.skew (computed_product c.from.result c.frame_length.result)
begun c =
    begin_computed c.args.timing.now c.args.frame c.args.skew c.requires
    c.from.result c.frame_length.result c.from.ensures c.frame_length.ensures.value (omega (arith, ints)) (omega (arith, ints))

pub overflow_mul-result : goal.overflow_mul-result
overflow_mul-result c = omega (arith, ints, (begun c).frames)

pub overflow_add-result : goal.overflow_add-result
overflow_add-result c = omega (arith, ints, (begun c).frames, (begun c).small)

pub returns-clause-value : goal.returns-clause-value
returns-clause-value c = omega (arith, ints, (begun c).frames, (begun c).small, (begun c).value)

pub returns-clause-range : goal.returns-clause-range
returns-clause-range c = (omega (arith, ints, (begun c).frames, (begun c).small), omega (arith, ints, (begun c).frames, (begun c).small))
