use Rattle.std.proofs.Common.{◌≡◌, ◌+◌, ℕ, suc, reverse, ap, sym, ◌∙◌, subst, arith, refl}
use Rattle.recovery_analysis.specs.inner.Levels.{graph_in}
use Rattle.rcp_model.specs.Shown.{back_node}
use Rattle.recovery_analysis.proofs.GatherLemmas.{back_times}
use Rattle.rcp_model.specs.Levels.{is_core}
use Rattle.rcp_model.specs.Witness.{IsWitnessCycle}
use Rattle.rcp_model.proofs.OrderLaws.{same_node, other_node}
use Rattle.recovery_analysis.proofs.GatherLemmas.{NotAgain, comes, gathered_nodes, gathered_more, not_again_more, gathered, around_core}
use Rattle.recovery_analysis.proofs.cycles.gather.Goals as goal

pub core_back-node-requires-clause-node : goal.core_back-node-requires-clause-node
core_back-node-requires-clause-node c =
    let g = graph_in c.args.levels.now in
    ap (is_core g) c.loop-i.invariant.node ∙ around_core g c.args.least c.requires.levels.some c.requires.least c.loop-i._i

pub returns-then-eq : goal.returns-then-eq
returns-then-eq c =
    let g = graph_in c.args.levels.now in
    let t : ℕ = c.loop-i._i in
    let next : c.core_back-node.result ≡ back_times g c.args.least (suc t) = c.core_back-node.ensures.value ∙ ap (back_node g) c.loop-i.invariant.node in
    let nodes : c.push.new.self.items ≡ gathered_nodes g c.args.least (suc t) = gathered_more g c.args.least t c.loop-i.nodes.items c.push.new.self.items c.core_back-node.result c.loop-i.invariant.nodes next c.in_ok-push.ensures.items in
    subst (IsWitnessCycle g) (sym (c.in_ok-list.ensures ∙ c.as_slice.ensures.value ∙ c.reverse.ensures.items ∙ ap reverse nodes))
    (gathered g c.args.least t c.requires.levels.some c.requires.least c.loop-i.invariant.fresh (sym next ∙ same_node c.core_back-node.result c.args.least (sym c.if-eq.ensures)))

pub loop-i-preserved : goal.loop-i-preserved
loop-i-preserved c =
    let g = graph_in c.args.levels.now in
    let t : ℕ = c.loop-i._i in
    let next : c.core_back-node.result ≡ back_times g c.args.least (suc t) = c.core_back-node.ensures.value ∙ ap (back_node g) c.loop-i.invariant.node in
    let one : suc t ≡ t + 1 = omega arith in
    record {
      node = next ∙ ap (back_times g c.args.least) one;
      nodes = gathered_more g c.args.least t c.loop-i.nodes.items c.push.new.self.items c.core_back-node.result c.loop-i.invariant.nodes next c.in_ok-push.ensures.items ∙ ap (gathered_nodes g c.args.least) one;
      fresh = not_again_more g c.args.least t c.loop-i.invariant.fresh (λ e. other_node c.core_back-node.result c.args.least (sym c.if-eq.ensures) (next ∙ e));
    }

pub unreachable-requires : goal.unreachable-requires
unreachable-requires c =
    let g = graph_in c.args.levels.now in
    comes g c.args.least c.requires.levels.some c.requires.least (subst (NotAgain g c.args.least) (omega arith) c.loop-i.invariant.fresh)

pub loop-i-init : goal.loop-i-init
loop-i-init c = record { node = refl; nodes = c.new-nodes.ensures.items; fresh = λ q a b e. absurd (omega arith) }
