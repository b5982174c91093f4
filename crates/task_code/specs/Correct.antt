-- What it is for a code to compute a task or an expression. This project's own.
use Rattle.std.specs.Prelude.{◌≡◌, ◌+◌, ◌≤◌, ℤ, List, [], ◌∷◌, map, length}
use Rattle.rcp_model.specs.declared.expr.Expr.{Expr}
use Rattle.rcp_model.specs.declared.task.Task.{Task}
use Rattle.rcp_model.specs.Expr.{value_of}
use Rattle.rcp_model.specs.Task.{let_values}
use Rattle.task_code.specs.declared.instruction.Instruction.{Instruction}
use Rattle.task_code.specs.Machine.{results, result_count}
use Rattle.task_code.specs.Compiler.{expr_size, task_size}

-- the value of each set row, in the order of the rows
abbrev pub set_values : Task → List ℤ → List ℤ → List ℤ
set_values task sensors cells = map (λ row. value_of row.value (let_values task sensors cells) sensors cells) task.sets

-- a code has the values of a task's set rows for its results
pub record Computes (task : Task) (code : List Instruction) : Type 0 where
  pub values : (sensors cells : List ℤ) → results code sensors cells ≡ set_values task sensors cells
  pub count : result_count code ≡ length task.sets
  pub size : length code ≤ task_size task

-- a code has an expression's value for its one result
pub record ComputesExpr (e : Expr) (code : List Instruction) : Type 0 where
  pub values : (sensors cells : List ℤ) → results code sensors cells ≡ value_of e [] sensors cells ∷ []
  pub count : result_count code ≡ 1
  pub size : length code ≤ expr_size e + 1
