-- The fault of the tasks or actuators, where those before have none.
use Rattle.std.proofs.lemmas.Result.{err_from_is_err_and}
use Rattle.task_file.specs.inner.SectionViews.{sections_view}
use Rattle.task_file.proofs.NameLemmas.{task_fault_is_told, actuator_fault_is_told}
use Rattle.task_file.proofs.names.read_names.Goals as goal

pub returns-in_err-tasks : goal.returns-in_err-tasks
returns-in_err-tasks c =
    let p = err_from_is_err_and c.from_residual-in_err-tasks.result c.from_residual-in_err-tasks.ensures.1 in
    rw (p.1, p.2) (task_fault_is_told (sections_view c.args.sections.now) c.in_ok-sensors.sensors c.in_ok-cells.cells c.in_err-tasks.field-0.0
    (rw c.as_slice.ensures at c.in_ok-sensors.ensures) (rw c.as_slice-2.ensures at c.in_ok-cells.ensures) (rw c.as_slice-3.ensures at c.in_err-tasks.ensures))

pub returns-in_err-actuators : goal.returns-in_err-actuators
returns-in_err-actuators c =
    let p = err_from_is_err_and c.from_residual-in_err-actuators.result c.from_residual-in_err-actuators.ensures.1 in
    rw (p.1, p.2) (actuator_fault_is_told (sections_view c.args.sections.now) c.in_ok-sensors.sensors c.in_ok-cells.cells c.in_err-actuators.field-0.0
    (rw c.as_slice.ensures at c.in_ok-sensors.ensures) (rw c.as_slice-2.ensures at c.in_ok-cells.ensures) c.in_ok-tasks.tasks
    (rw c.as_slice-3.ensures at c.in_ok-tasks.ensures) (rw c.as_slice-4.ensures at c.in_err-actuators.ensures))
