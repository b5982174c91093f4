use Rattle.std.proofs.Common.{◌≡◌, to_z, of_z, w64, arith}
use Rattle.std.proofs.lemmas.Int.{ints, to_z-of_z}
use Rattle.rcp_model.specs.Moments.{vote_tick, is_in_window}
use Rattle.clock_model.proofs.MomentsLemmas.{begin_back}
use Rattle.clock_model.proofs.moments.in_window.Goals as goal

pub returns-then-begin-arrival : goal.returns-then-begin-arrival
unfolding is_in_window
returns-then-begin-arrival c =
    let timing = c.args.timing.now in
    let begins = begin_back timing c.args.frame c.args.skew c.requires.begins c.ranges.skew in
    let votes : vote_tick timing c.args.frame (to_z w64 (of_z w64 c.args.skew)) (to_z w64 (of_z w64 c.args.rate)) ≡ vote_tick timing c.args.frame c.args.skew c.args.rate =
    rw (to_z-of_z w64 c.args.skew c.ranges.skew, to_z-of_z w64 c.args.rate c.ranges.rate) in
    grind (arith, ints)

pub returns-else-begin-arrival : goal.returns-else-begin-arrival
unfolding is_in_window
returns-else-begin-arrival c =
    let begins = begin_back c.args.timing.now c.args.frame c.args.skew c.requires.begins c.ranges.skew in
    grind (arith, ints)
