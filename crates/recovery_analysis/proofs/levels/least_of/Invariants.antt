use Rattle.recovery_analysis.proofs.MarkLemmas.{AreEmptyBelow}
use Rattle.recovery_analysis.proofs.levels.least_of.Given as goal

abbrev pub invariant-loop-slot : goal.invariant-loop-slot
invariant-loop-slot l = AreEmptyBelow l.slot l.level
