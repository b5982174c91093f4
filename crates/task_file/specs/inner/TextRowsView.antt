-- What contracts see of the tasks and actuators that the code holds.
-- This project's own.
use Rattle.task_file.specs.declared.texts.TextRows as code
use Rattle.task_file.specs.Texts.{TextRows}

abbrev pub text_rows_view : code.TextRows → TextRows
text_rows_view rows = record { tasks = rows.tasks; actuators = rows.actuators }
