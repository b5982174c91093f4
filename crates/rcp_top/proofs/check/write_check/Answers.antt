-- The tasks, the pattern and its recovery, one after the other.
use Rattle.rcp_base.proofs.AddingLaws.{adds_then, adds_all}
use Rattle.rcp_model.specs.PlanGraph.{graph_of_plan}
use Rattle.rcp_top.specs.Check.{task_lines, check_text}
use Rattle.rcp_top.specs.PatternText.{pattern_text, recovery_text}
use Rattle.rcp_top.proofs.check.write_check.Goals as goal

pub returns : goal.returns
unfolding check_text
returns g c =
    let plan = c.args.plan.now in
    let graph = graph_of_plan plan in
    adds_all _ _ _ _ _ (adds_then _ _ _ _ _ _ (task_lines plan) _ c.write_tasks-so_far.ensures
    (adds_then _ _ _ _ _ _ (pattern_text plan.cells graph) (recovery_text plan.cells c.args.length c.args.walk.now)
    (c.write_pattern-so_far.ensures graph c.requires) c.write_recovery.ensures))
