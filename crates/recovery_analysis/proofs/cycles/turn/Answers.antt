use Rattle.std.proofs.Common.{sym, ◌≡◌, ◌+◌, ℕ, suc, inl, inr, ap, ◌∙◌, subst, arith}
use Rattle.recovery_analysis.specs.inner.Levels.{graph_in}
use Rattle.rcp_model.specs.Walk.{node_count}
use Rattle.rcp_model.specs.Shown.{path, back_node}
use Rattle.rcp_model.specs.Levels.{is_core}
use Rattle.rcp_model.specs.Shown.{period_of}
use Rattle.recovery_analysis.proofs.GatherLemmas.{LeastSoFar}
use Rattle.rcp_model.proofs.OrderLaws.{before, not_before}
use Rattle.rcp_model.proofs.LevelLaws.{level_unvoted}
use Rattle.rcp_model.proofs.CoreLaws.{path_at, path_core}
use Rattle.recovery_analysis.proofs.GatherLemmas.{turn_begin, turn_more, turn_end}
use Rattle.recovery_analysis.proofs.cycles.turn.Goals.{then-lt, else-lt}
use Rattle.recovery_analysis.proofs.cycles.turn.Goals as goal

pub core_back-node-requires-clause-node : goal.core_back-node-requires-clause-node
core_back-node-requires-clause-node c =
    let g = graph_in c.args.levels.now in
    ap (is_core g) c.loop-i.invariant.node ∙ path_core g c.requires.levels.some (c.loop-i._i + node_count g)

pub loop-i-preserved : goal.loop-i-preserved
loop-i-preserved c =
    let g = graph_in c.args.levels.now in
    let t = c.loop-i.invariant.turn in
    let u = level_unvoted g (node_count g) c.core_back-node.result c.core_back-node.ensures.core in
    let v = level_unvoted g (node_count g) c.loop-i.least (ap (is_core g) t.is ∙ path_core g c.requires.levels.some (t.s + node_count g)) in
    let e : c.core_back-node.result ≡ path g (c.loop-i._i + 1 + node_count g) =
    c.core_back-node.ensures.value ∙ ap (back_node g) c.loop-i.invariant.node ∙ path_at g (suc (c.loop-i._i + node_count g)) (c.loop-i._i + 1 + node_count g) (omega arith) in
    record {
      node = e;
      turn = turn_more g c.loop-i._i c.loop-i.least c.core_back-node.result c.if-lt.least c.requires.levels.some c.loop-i.invariant.turn e
          (elim c.if-lt.branch [
            | then-lt w ↦ inl (before g c.core_back-node.result c.loop-i.least u.cell_in v.cell_in (sym w.if-lt.ensures), w.least-is)
            | else-lt w ↦ inr (not_before g c.core_back-node.result c.loop-i.least u.cell_in v.cell_in (sym w.if-lt.ensures), w.least-is)
          ]);
    }

pub returns : goal.returns
returns c =
    let g = graph_in c.args.levels.now in
    turn_end g c.loop-i.least c.requires.levels.some (subst (λ (x : ℕ). LeastSoFar g (period_of g) x c.loop-i.least) (omega arith) c.loop-i.invariant.turn)

pub loop-i-init : goal.loop-i-init
loop-i-init c =
    let g = graph_in c.args.levels.now in
    record {
      node = c.requires.reached ∙ path_at g (node_count g) (0 + node_count g) (omega arith);
      turn = turn_begin g c.args.reached c.requires.levels.some c.requires.reached;
    }
