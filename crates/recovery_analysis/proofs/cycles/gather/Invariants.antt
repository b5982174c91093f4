use Rattle.std.proofs.Common.{◌≡◌}
use Rattle.recovery_analysis.specs.inner.Levels.{graph_in}
use Rattle.recovery_analysis.proofs.GatherLemmas.{back_times}
use Rattle.recovery_analysis.proofs.GatherLemmas.{NotAgain, gathered_nodes}
use Rattle.recovery_analysis.proofs.cycles.gather.Given as goal

abbrev pub invariant-loop-i : goal.invariant-loop-i
invariant-loop-i l = let g = graph_in l.levels in record {
  node : l.node ≡ back_times g l.least l._i;
  nodes : l.nodes.items ≡ gathered_nodes g l.least l._i;
  fresh : NotAgain g l.least l._i;
}
