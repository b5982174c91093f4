use Rattle.recovery_analysis.specs.Graphs.{graph_of}
use Rattle.recovery_analysis.specs.inner.Levels.{IsLevel}
use Rattle.recovery_analysis.proofs.verdict.within.Given as goal

abbrev pub invariant-loop-depth : goal.invariant-loop-depth
invariant-loop-depth l = IsLevel (graph_of l.rows l.pattern) l._depth l.level
