-- What it is for a table to be of a plan. This project's own.
use Rattle.std.specs.Prelude.{◌≡◌, ℕ, List, map}
use Rattle.rcp_model.specs.declared.task.Task.{Task}
use Rattle.rcp_model.specs.declared.plan.SlotRow.{SlotRow}
use Rattle.rcp_model.specs.declared.plan.ActuatorRow.{ActuatorRow}
use Rattle.rcp_model.specs.declared.plan.PlanParts.{PlanParts}
use Rattle.task_code.specs.declared.instruction.Instruction.{Instruction}
use Rattle.task_code.specs.Compiler.{task_code, expr_code}
use Rattle.frame_table.specs.declared.table.Table.{Table}
use Rattle.frame_table.specs.Tasks.{Programs}

-- the cells that a task sets, in the order of its rows
abbrev pub targets_of : Task → List ℕ
targets_of task = map (λ row. row.cell) task.sets

abbrev pub programs_of : List Task → Programs
programs_of tasks = record { codes = map task_code tasks; targets = map targets_of tasks }

-- the numbers of each slot's tasks
abbrev pub slots_of : List SlotRow → List (List ℕ)
slots_of slots = map (λ (row : SlotRow). row.tasks) slots

abbrev pub commands_of : List ActuatorRow → List (List Instruction)
commands_of actuators = map (λ (actuator : ActuatorRow). expr_code actuator.value) actuators

-- a table has the code of a plan's tasks and actuators, and its slots
pub record IsOf (plan : PlanParts) (table : Table) : Type 0 where
  pub programs : table.programs ≡ programs_of plan.tasks
  pub slots : table.slots ≡ slots_of plan.slots
  pub commands : table.commands ≡ commands_of plan.actuators
