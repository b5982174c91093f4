use Rattle.std.proofs.Common.{◌≡◌, ◌∙◌, ◌+◌, ◌-◌, ℕ, ap, arith}
use Rattle.rcp_model.specs.Levels.{level}
use Rattle.rcp_model.proofs.WalkLaws.{walk_back, walk_nodes_more, walk_level, walk_answer}
use Rattle.recovery_analysis.specs.inner.Levels.{graph_in}
use Rattle.recovery_analysis.proofs.walks.walk_of.Goals as goal

pub back-node-requires-clause-node : goal.back-node-requires-clause-node
back-node-requires-clause-node c =
    let g = graph_in c.args.levels.now in
    let k : ℕ = c.args.depth in
    let i : ℕ = c.loop-i.i in
    let same : k - 1 - i + 1 ≡ k - i = omega arith in
    ap (λ (x : ℕ). level g x c.loop-i.node) same ∙ ap (level g (k - i)) c.loop-i.invariant.node
    ∙ walk_level g k c.requires.last.some i (omega arith)

pub loop-i-preserved : goal.loop-i-preserved
loop-i-preserved c =
    let g = graph_in c.args.levels.now in
    record {
      node = walk_back g c.args.depth c.loop-i.i c.loop-i.node c.back-node.result c.loop-i.invariant.node c.back-node.ensures;
      nodes = walk_nodes_more g c.args.depth c.loop-i.i c.loop-i.nodes.items c.push.new.self.items c.loop-i.node
          c.loop-i.invariant.nodes c.loop-i.invariant.node c.in_ok-push.ensures.items;
    }

pub returns : goal.returns
returns c =
    let g = graph_in c.args.levels.now in
    walk_answer g c.args.depth c.loop-i.i c.push-2.new.self.items c.in_ok-list.list c.requires.last.some (omega arith)
    (walk_nodes_more g c.args.depth c.loop-i.i c.loop-i.nodes.items c.push-2.new.self.items c.loop-i.node
    c.loop-i.invariant.nodes c.loop-i.invariant.node c.in_ok-push-2.ensures.items)
    (c.in_ok-list.ensures ∙ c.as_slice.ensures.value ∙ c.reverse.ensures.items)
