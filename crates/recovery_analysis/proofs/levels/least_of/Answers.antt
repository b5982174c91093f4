use Rattle.std.proofs.Common.{arith}
use Rattle.recovery_analysis.proofs.MarkLemmas.{least_found, none_found_at}
use Rattle.recovery_analysis.proofs.levels.least_of.Goals as goal

pub returns-in-Some : goal.returns-in-Some
returns-in-Some c = λ g k same is.
    least_found g k c.loop-slot.slot c.in-Some.cell c.args.level.now (omega arith) c.loop-slot.invariant c.in-Some.ensures is

pub returns : goal.returns
returns c = λ g k same is.
    none_found_at g k c.loop-slot.slot c.args.level.now (omega arith) c.loop-slot.invariant is
