use Rattle.std.proofs.Common.{arith}
use Rattle.rcp_model.proofs.TimingLaws.{first_failed_rule-tells}
use Rattle.clock_model.proofs.rules.check_timing.Goals as goal

pub returns-then-not-phases_last-clause-err : goal.returns-then-not-phases_last-clause-err
returns-then-not-phases_last-clause-err c = let told = first_failed_rule-tells c.args.timing.now in grind arith

pub returns-then-not-broadcast_fits-clause-err : goal.returns-then-not-broadcast_fits-clause-err
returns-then-not-broadcast_fits-clause-err c = let told = first_failed_rule-tells c.args.timing.now in grind arith

pub returns-then-not-none_is_early-clause-err : goal.returns-then-not-none_is_early-clause-err
returns-then-not-none_is_early-clause-err c = let told = first_failed_rule-tells c.args.timing.now in grind arith

pub returns-then-not-frames_stay_apart-clause-err : goal.returns-then-not-frames_stay_apart-clause-err
returns-then-not-frames_stay_apart-clause-err c = let told = first_failed_rule-tells c.args.timing.now in grind arith

pub returns-then-not-limits_nest-clause-err : goal.returns-then-not-limits_nest-clause-err
returns-then-not-limits_nest-clause-err c = let told = first_failed_rule-tells c.args.timing.now in grind arith

pub returns-else-not-limits_nest-clause-ok : goal.returns-else-not-limits_nest-clause-ok
returns-else-not-limits_nest-clause-ok c = let told = first_failed_rule-tells c.args.timing.now in grind arith
