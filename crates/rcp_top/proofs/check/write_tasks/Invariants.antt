-- The lines of the tasks so far were added.
use Rattle.std.proofs.Common.{take, flat_map}
use Rattle.rcp_base.specs.Adding.{Adds}
use Rattle.rcp_model.specs.Plan.{variable_names}
use Rattle.trace_text.specs.PlanLines.{task_line}
use Rattle.rcp_top.proofs.check.write_tasks.Given as goal

abbrev pub invariant-loop-task : goal.invariant-loop-task
invariant-loop-task g l =
    Adds (g.S.Sink.state l.initial.out) (g.S.Sink.state l.out) l.initial.so_far l.so_far
    (flat_map (task_line (variable_names l.plan.sensors) (variable_names l.plan.cells)) (take l.task l.plan.tasks))
