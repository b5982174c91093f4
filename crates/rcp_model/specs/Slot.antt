-- What a slot of the frame table leaves in the cells, and what an actuator is commanded. After NASA TM-102716.
use Rattle.std.specs.Prelude.{ℕ, ℤ, pos, List, [], ◌∷◌, map, length, slice_index_or}
use Rattle.rcp_model.specs.declared.expr.Expr.TheVariants as expr
use Rattle.rcp_model.specs.declared.task.Task.{Task}
use Rattle.rcp_model.specs.declared.plan.SlotRow.{SlotRow}
use Rattle.rcp_model.specs.declared.plan.ActuatorRow.{ActuatorRow}
use Rattle.rcp_model.specs.declared.plan.PlanParts.{PlanParts}
use Rattle.rcp_model.specs.Expr.{value_of}
use Rattle.rcp_model.specs.Task.{cells_after_task}

abbrev pub slot_count : PlanParts → ℕ
slot_count plan = length plan.slots

-- what stands at a number that a plan doesn't have
abbrev pub no_task : Task
no_task = record { name = []; lets = []; sets = [] }

abbrev pub no_slot : SlotRow
no_slot = record { tasks = []; votes = [] }

abbrev pub no_actuator : ActuatorRow
no_actuator = record { name = []; value = expr.Number (pos 0) }

-- the tasks with these numbers
abbrev pub numbered : List Task → List ℕ → List Task
numbered tasks numbers = map (λ number. slice_index_or tasks number no_task) numbers

-- the tasks of a slot, in order
abbrev pub tasks_of : PlanParts → ℕ → List Task
tasks_of plan slot = numbered plan.tasks (slice_index_or plan.slots slot no_slot).tasks

-- the cells after tasks that run one after the other
abbrev pub cells_after_tasks : List Task → List ℤ → List ℤ → List ℤ
cells_after_tasks [] sensors cells = cells
cells_after_tasks (task ∷ tasks) sensors cells = cells_after_tasks tasks sensors (cells_after_task task sensors cells)

-- the cells after a slot
unfoldable pub cells_after_slot : PlanParts → ℕ → List ℤ → List ℤ → List ℤ
cells_after_slot plan slot sensors cells = cells_after_tasks (tasks_of plan slot) sensors cells

-- the actuator with a number
abbrev pub actuator_at : PlanParts → ℕ → ActuatorRow
actuator_at plan actuator = slice_index_or plan.actuators actuator no_actuator

-- the value of an actuator's expression
abbrev pub actuator_value : ActuatorRow → List ℤ → List ℤ → ℤ
actuator_value actuator sensors cells = value_of actuator.value [] sensors cells
