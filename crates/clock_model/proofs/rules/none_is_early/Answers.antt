use Rattle.std.proofs.Common.{◌≡◌, to_z, of_z, w64, arith}
use Rattle.std.proofs.lemmas.Int.{ints}
use Rattle.rcp_model.specs.TimingRules.{arrival_need}
use Rattle.clock_model.proofs.DriftLemmas.{back_sum, test_says}
use Rattle.clock_model.proofs.rules.none_is_early.Goals as goal

pub returns : goal.returns
returns c =
    let timing = c.args.timing.now in
    let need : to_z w64 (of_z w64 c.arrival_need.result) ≡ arrival_need timing = omega (arith, ints) in
    test_says need (back_sum timing.compute timing.delay_min c.requires.compute c.requires.delay_min)
