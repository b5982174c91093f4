use Rattle.std.proofs.Common.{◌≡◌, ◌+◌}
use Rattle.recovery_analysis.specs.inner.Levels.{graph_in}
use Rattle.rcp_model.specs.Walk.{node_count}
use Rattle.rcp_model.specs.Shown.{path}
use Rattle.rcp_model.specs.Shown.{period_of}
use Rattle.recovery_analysis.proofs.GatherLemmas.{LeastSoFar}
use Rattle.recovery_analysis.proofs.cycles.turn.Given as goal

abbrev pub invariant-loop-i : goal.invariant-loop-i
invariant-loop-i l = let g = graph_in l.levels in record {
  node : l.node ≡ path g (l._i + node_count g);
  turn : LeastSoFar g (period_of g) l._i l.least;
}
