use Rattle.rcp_top.proofs.PatternLemmas.{refused_at_cycles}
use Rattle.rcp_top.proofs.laws.patterns_are_refused_at_cycles.Goals as goal

pub returns : goal.returns
returns c = refused_at_cycles
