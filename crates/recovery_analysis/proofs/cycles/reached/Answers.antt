use Rattle.std.proofs.Common.{◌+◌, suc, ap, ◌∙◌, arith}
use Rattle.recovery_analysis.specs.inner.Levels.{graph_in}
use Rattle.rcp_model.specs.Walk.{node_count}
use Rattle.rcp_model.specs.Shown.{back_node}
use Rattle.rcp_model.specs.Levels.{is_core}
use Rattle.rcp_model.proofs.CoreLaws.{path_at, path_core}
use Rattle.recovery_analysis.proofs.cycles.reached.Goals as goal

pub core_back-node-requires-clause-node : goal.core_back-node-requires-clause-node
core_back-node-requires-clause-node c =
    let g = graph_in c.args.levels.now in
    ap (is_core g) c.loop-i.invariant ∙ path_core g c.requires.levels.some c.loop-i._i

pub loop-i-preserved : goal.loop-i-preserved
loop-i-preserved c =
    let g = graph_in c.args.levels.now in
    c.core_back-node.ensures.value ∙ ap (back_node g) c.loop-i.invariant ∙ path_at g (suc c.loop-i._i) (c.loop-i._i + 1) (omega arith)

pub returns : goal.returns
returns c =
    let g = graph_in c.args.levels.now in
    c.loop-i.invariant ∙ path_at g c.loop-i._i (node_count g) (omega arith)
