-- The line of a task is the next one.
use Rattle.std.proofs.Common.{List, ℕ, ◌≡◌, ◌<◌, ap, flat_map, take, length, get_or, subst, ◌∙◌, arith}
use Rattle.rcp_base.specs.Adding.{Adds}
use Rattle.rcp_base.proofs.AddingLaws.{adds_then}
use Rattle.rcp_model.specs.Plan.{variable_names}
use Rattle.rcp_model.specs.Slot.{no_task}
use Rattle.trace_text.specs.PlanLines.{task_line}
use Rattle.rcp_top.proofs.LineLemmas.{lines_more}
use Rattle.rcp_top.proofs.check.write_tasks.Goals as goal

pub loop-task-preserved : goal.loop-task-preserved
loop-task-preserved g c =
    let plan = c.args.plan.now in
    let number = c.loop-task.task in
    let line = task_line (variable_names plan.sensors) (variable_names plan.cells) in
    let next = line (get_or plan.tasks number no_task) in
    let many : c.len-task-end.result ≡ length plan.tasks = c.len-task-end.ensures ∙ ap (λ parts. length parts.tasks) c.parts.ensures.parts in
    let below : number < length plan.tasks = omega (arith, many, c.loop-task-test.true) in
    let P : List ℕ → Type 0 = Adds (g.S.Sink.state c.args.out.now) (g.S.Sink.state c.add_made-so_far.new.out) c.args.so_far c.add_made-so_far.result in
    subst P (lines_more line plan.tasks number no_task below)
    (adds_then _ _ _ _ _ _ (flat_map line (take number plan.tasks)) next c.loop-task.invariant (c.add_made-so_far.ensures next (c.task.ensures no_task)))
