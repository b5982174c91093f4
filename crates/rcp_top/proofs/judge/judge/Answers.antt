-- A verdict on the rows and votes of the plan is one on its graph.
use Rattle.rcp_model.specs.PlanGraph.{graph_of_plan}
use Rattle.rcp_top.proofs.judge.judge.Goals as goal

pub returns-clause-verdict : goal.returns-clause-verdict
returns-clause-verdict c = c.in_ok-verdict.ensures.graph (graph_of_plan c.args.plan.now) c.in_ok-rows.ensures c.in_ok-pattern.ensures
