use Rattle.std.proofs.Common.{◌≡◌, ◌+◌, ◌-◌, ℕ, false, ap, sym, ◌∙◌, subst, arith}
use Rattle.rcp_model.specs.Walk.{Graph, node_count}
use Rattle.rcp_model.specs.Levels.{has_level_node}
use Rattle.rcp_model.specs.Shown.{walk_node, start_node}
use Rattle.rcp_model.specs.Witness.{IsWitnessCycle, IsWitnessWalkOf}
use Rattle.rcp_model.proofs.CycleLaws.{witness_is_cycle}
use Rattle.rcp_model.proofs.WalkLaws.{recovery_of}
use Rattle.recovery_analysis.specs.declared.verdict.Verdict.TheVariants.{Recovers, Cycle}
use Rattle.recovery_analysis.specs.Graphs.{graph_of}
use Rattle.recovery_analysis.specs.inner.Levels.{Levels, graph_in, HaveCycle}
use Rattle.recovery_analysis.proofs.VerdictLemmas.{verdict_of_graphs}
use Rattle.recovery_analysis.proofs.verdict.analyse.Goals as goal

pub cycle_of-requires-clause-levels : goal.cycle_of-requires-clause-levels
cycle_of-requires-clause-levels c =
    let g = graph_of c.args.rows.now c.args.pattern.now in
    let k : ℕ = node_count g in
    subst HaveCycle (sym c.loop-depth.invariant.levels)
    (record { full = omega (arith, c.node_count-count.ensures.value); some = c.loop-depth.invariant.some k (omega (arith, c.node_count-count.ensures.value)) })

pub cycle_of-requires-clause-start : goal.cycle_of-requires-clause-start
cycle_of-requires-clause-start c =
    let g = graph_of c.args.rows.now c.args.pattern.now in
    let last : c.loop-depth.depth - 1 ≡ node_count g = omega (arith, c.node_count-count.ensures.value) in
    subst (λ (levels : Levels). c.loop-depth.last ≡ start_node (graph_in levels)) (sym c.loop-depth.invariant.levels)
    ((c.loop-depth.invariant.last (omega arith)).is ∙ ap (λ (k : ℕ). walk_node g k 0) last)

pub returns-clause-verdict : goal.returns-clause-verdict
returns-clause-verdict c =
    let g = graph_of c.args.rows.now c.args.pattern.now in
    let nodes = c.in_ok-nodes.nodes in
    let shown = subst (λ (levels : Levels). IsWitnessCycle (graph_in levels) nodes) c.loop-depth.invariant.levels c.in_ok-nodes.ensures in
    record { cycle = witness_is_cycle g nodes shown; witness = shown }

pub returns-clause-graph : goal.returns-clause-graph
returns-clause-graph c =
    verdict_of_graphs c.args.rows.now c.args.pattern.now (Cycle c.in_ok-nodes.nodes) (returns-clause-verdict c)

pub returns-in-None-clause-verdict : goal.returns-in-None-clause-verdict
returns-in-None-clause-verdict c =
    let g = graph_of c.args.rows.now c.args.pattern.now in
    let k : ℕ = c.loop-depth.depth in
    let walk = c.in_ok-walk-in-None.walk in
    let same : graph_in c.push.new.self ≡ g = ap graph_in c.in_ok-push.ensures ∙ ap graph_in c.loop-depth.invariant.levels in
    let none = subst (λ (x : Graph). has_level_node x k ≡ false) same c.in-None.ensures in
    let w = subst (λ (x : Graph). IsWitnessWalkOf x k walk) same c.in_ok-walk-in-None.ensures in
    recovery_of g k walk c.loop-depth.invariant.some none w.long w.walk

pub returns-in-None-clause-graph : goal.returns-in-None-clause-graph
returns-in-None-clause-graph c =
    verdict_of_graphs c.args.rows.now c.args.pattern.now (Recovers (c.loop-depth.depth + 1) c.in_ok-walk-in-None.walk) (returns-in-None-clause-verdict c)
