use Rattle.std.proofs.Common.{◌≡◌}
use Rattle.recovery_analysis.specs.inner.Levels.{graph_in}
use Rattle.rcp_model.specs.Shown.{walk_node}
use Rattle.rcp_model.specs.Shown.{walk_nodes}
use Rattle.recovery_analysis.proofs.walks.walk_of.Given as goal

abbrev pub invariant-loop-i : goal.invariant-loop-i
invariant-loop-i l = let g = graph_in l.levels in record {
  node : l.node ≡ walk_node g l.depth l.i;
  nodes : l.nodes.items ≡ walk_nodes g l.depth l.i;
}
