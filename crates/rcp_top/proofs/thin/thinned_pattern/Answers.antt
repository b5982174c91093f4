-- The pattern of a plan without an unvoted cycle is thinned, and then recovers.
use Rattle.std.proofs.Common.{subst}
use Rattle.rcp_model.specs.PlanGraph.{graph_of_plan}
use Rattle.recovery_analysis.proofs.VerdictLaws.{no_cycle_over}
use Rattle.recovery_analysis.specs.Verdict.{IsVerdictOfGraphs}
use Rattle.recovery_analysis.specs.declared.verdict.Verdict.{Verdict}
use Rattle.rcp_top.proofs.ThinLemmas.{thinned_size, thinned_found, never_a_cycle}
use Rattle.rcp_top.proofs.thin.thinned_pattern.Goals as goal

pub thin-requires-clause-no_cycle : goal.thin-requires-clause-no_cycle
thin-requires-clause-no_cycle c =
    no_cycle_over (graph_of_plan c.args.plan.now) c.args.rows.now c.in_ok-pattern.pattern c.requires.rows c.in_ok-pattern.ensures c.requires.good

pub analyse-requires-clause-slots : goal.analyse-requires-clause-slots
analyse-requires-clause-slots c =
    (thinned_size c.args.plan.now.recovery_limit (graph_of_plan c.args.plan.now) c.args.rows.now c.in_ok-pattern.pattern c.thin.new.pattern
    c.requires.rows c.in_ok-pattern.ensures (rw c.limit_of.ensures.is at c.in_ok-spared.ensures.thinned)).slots

pub analyse-requires-clause-cells : goal.analyse-requires-clause-cells
analyse-requires-clause-cells c =
    (thinned_size c.args.plan.now.recovery_limit (graph_of_plan c.args.plan.now) c.args.rows.now c.in_ok-pattern.pattern c.thin.new.pattern
    c.requires.rows c.in_ok-pattern.ensures (rw c.limit_of.ensures.is at c.in_ok-spared.ensures.thinned)).cells

pub unreachable-requires : goal.unreachable-requires
unreachable-requires c =
    let P : Verdict → Type 0 = IsVerdictOfGraphs c.args.rows.now c.thin.new.pattern in
    never_a_cycle c.args.plan.now.recovery_limit (graph_of_plan c.args.plan.now) c.args.rows.now c.in_ok-pattern.pattern c.thin.new.pattern c.in-Cycle.nodes
    c.requires.rows c.in_ok-pattern.ensures (rw c.limit_of.ensures.is at c.in_ok-spared.ensures.thinned) c.requires.good (subst P c.in-Cycle.is c.in_ok-length.ensures.graph)

pub returns : goal.returns
returns c =
    let P : Verdict → Type 0 = IsVerdictOfGraphs c.args.rows.now c.thin.new.pattern in
    thinned_found c.args.plan.now c.args.rows.now c.in_ok-pattern.pattern c.thin.new.pattern c.in_ok-spared.spared c.in-Recovers.length c.in-Recovers.walk
    c.requires.rows c.in_ok-pattern.ensures (rw c.limit_of.ensures.is at c.in_ok-spared.ensures.thinned) c.requires.good c.in_ok-spared.ensures.count
    (subst P c.in-Recovers.is c.in_ok-length.ensures.graph)
