use Rattle.std.proofs.Common.{◌≡◌}
use Rattle.recovery_analysis.specs.inner.Levels.{graph_in}
use Rattle.rcp_model.specs.Shown.{path}
use Rattle.recovery_analysis.proofs.cycles.reached.Given as goal

abbrev pub invariant-loop-i : goal.invariant-loop-i
invariant-loop-i l = l.node ≡ path (graph_in l.levels) l._i
