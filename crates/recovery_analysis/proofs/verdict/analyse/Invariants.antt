use Rattle.std.proofs.Common.{◌≡◌, ◌-◌, ◌<◌, ℕ, true}
use Rattle.rcp_model.specs.Levels.{has_level_node}
use Rattle.recovery_analysis.specs.Graphs.{graph_of}
use Rattle.recovery_analysis.specs.inner.Levels.{IsLeastAt}
use Rattle.recovery_analysis.proofs.verdict.analyse.Given as goal

abbrev pub invariant-loop-depth : goal.invariant-loop-depth
invariant-loop-depth l = let g = graph_of l.rows l.pattern in record {
  levels : l.levels ≡ record { rows = l.rows; votes = l.pattern; count = l.depth };
  some : (j : ℕ) → j < l.depth → has_level_node g j ≡ true;
  last : 0 < l.depth → IsLeastAt g (l.depth - 1) l.last;
}
