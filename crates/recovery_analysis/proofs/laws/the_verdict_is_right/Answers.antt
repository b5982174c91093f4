use Rattle.recovery_analysis.proofs.VerdictLemmas.{verdict_is_right}
use Rattle.recovery_analysis.proofs.laws.the_verdict_is_right.Goals as goal

pub returns : goal.returns
returns c = verdict_is_right
