-- What is printed of a task is short, and is read again as the same task.
-- This project's own.
use Rattle.std.specs.Prelude.{ℕ, ◌*◌, ◌≤◌, List, length, Ok}
use Rattle.rcp_model.specs.declared.task.Task.{Task}
use Rattle.task_lang.specs.Answers.{IsBodyAnswer}
use Rattle.task_lang.specs.Printing.{task_text}

-- over these sensors and cells the text is read as this task
abbrev pub IsReadAs : List (List ℕ) → List (List ℕ) → List ℕ → Task → Type 0
IsReadAs sensors cells text task = IsBodyAnswer sensors cells task.name text (Ok task)

-- a text of a task that was read from so many bytes
pub record ReadsBack (sensors cells : List (List ℕ)) (size : ℕ) (task : Task) (text : List ℕ) : Type 0 where
  pub short : length text ≤ 4 * size
  pub again : IsReadAs sensors cells text task

-- a task is printed in at most four times the bytes that it was read from, and read back
abbrev pub PrintedTasksReadBack : Type 0
PrintedTasksReadBack =
    (sensors cells : List (List ℕ)) (text : List ℕ) (task : Task) → IsReadAs sensors cells text task
    → ReadsBack sensors cells (length text) task (task_text sensors cells task)
