-- What is read keeps the rules of a plan.
-- This project's own.
use Rattle.std.specs.Prelude.{ℕ, ◌≡◌, true, List, ◌++◌, length, Ok}
use Rattle.rcp_model.specs.declared.expr.Expr.{Expr}
use Rattle.rcp_model.specs.declared.task.Task.{Task}
use Rattle.rcp_model.specs.Plan.{AreNames, is_over, IsTaskOver}
use Rattle.task_lang.specs.Answers.{IsExprAnswer, IsBodyAnswer}

-- an expression that is read is over the sensors and cells, and over no let
abbrev pub ExpressionsKeepRules : Type 0
ExpressionsKeepRules =
    (sensors cells : List (List ℕ)) (text : List ℕ) (a : Expr) → IsExprAnswer sensors cells text (Ok a)
    → is_over (length sensors) (length cells) 0 a ≡ true

-- a task that is read is over the sensors and cells
abbrev pub BodiesKeepRules : Type 0
BodiesKeepRules =
    (sensors cells : List (List ℕ)) → AreNames (sensors ++ cells)
    → (name text : List ℕ) (task : Task) → IsBodyAnswer sensors cells name text (Ok task) → IsTaskOver sensors cells task

-- and it has the name that it was read for
abbrev pub BodiesKeepNames : Type 0
BodiesKeepNames = (sensors cells : List (List ℕ)) (name text : List ℕ) (task : Task) → IsBodyAnswer sensors cells name text (Ok task) → task.name ≡ name
