-- The texts of the task language in a task file: each body, and then each actuator's value.
-- This project's own.
use Rattle.std.specs.Prelude.{ℕ, List, Result, Ok}
use Rattle.rcp_base.specs.Answers.{◌>>=◌, each_from}
use Rattle.rcp_model.specs.declared.task.Task.{Task}
use Rattle.rcp_model.specs.declared.plan.ActuatorRow.{ActuatorRow}
use Rattle.task_lang.specs.TextReaders.{read_body, read_expr}
use Rattle.task_file.specs.declared.fault.FileFault.{FileFault}
use Rattle.task_file.specs.declared.path.Key.TheVariants as key
use Rattle.task_file.specs.declared.path.Section.TheVariants as section
use Rattle.task_file.specs.Fault.{of_text}
use Rattle.task_file.specs.Names.{raw_names}
use Rattle.task_file.specs.Places.{of_table_key}
use Rattle.task_file.specs.Sections.{RawText, Sections}

-- the task of a name and a body over these sensors and cells
abbrev pub task_of : List (List ℕ) → List (List ℕ) → ℕ → RawText → Result Task FileFault
task_of sensors cells i raw = of_text (of_table_key section.Task i key.Body) (read_body sensors cells raw.name raw.text)

-- the actuator of a name and a value
abbrev pub actuator_of : List (List ℕ) → List (List ℕ) → ℕ → RawText → Result ActuatorRow FileFault
actuator_of sensors cells i raw = do
  value ← of_text (of_table_key section.Actuator i key.Value) (read_expr sensors cells raw.text)
  Ok (record { name = raw.name; value = value })

-- what the texts of a file write
pub record TextRows : Type 0 where
  pub tasks : List Task
  pub actuators : List ActuatorRow

-- the tasks and actuators that the texts of the sections write
unfoldable pub text_rows_of : Sections → Result TextRows FileFault
text_rows_of sections = do
  let sensors = raw_names sections.sensors
  let cells = raw_names sections.cells
  tasks ← each_from (task_of sensors cells) 0 sections.tasks
  actuators ← each_from (actuator_of sensors cells) 0 sections.actuators
  Ok (record { tasks = tasks; actuators = actuators })
