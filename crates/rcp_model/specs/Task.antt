-- What a task leaves in the cells. This project's own.
use Rattle.std.specs.Prelude.{ℕ, ◌==◌, ℤ, pos, List, [], ◌∷◌, ◌++◌, length, slice_index_or, Option, Some, None, if◌then◌else◌}
use Rattle.rcp_base.specs.Tables.{table}
use Rattle.rcp_model.specs.declared.expr.Expr.{Expr}
use Rattle.rcp_model.specs.declared.task.LetRow.{LetRow}
use Rattle.rcp_model.specs.declared.task.SetRow.{SetRow}
use Rattle.rcp_model.specs.declared.task.Task.{Task}
use Rattle.rcp_model.specs.Expr.{value_of}

-- the values of let rows, each over those before it
abbrev pub let_values_after : List ℤ → List LetRow → List ℤ → List ℤ → List ℤ
let_values_after known [] sensors cells = known
let_values_after known (row ∷ rows) sensors cells =
    let_values_after (known ++ value_of row.value known sensors cells ∷ []) rows sensors cells

-- the values of a task's lets
abbrev pub let_values : Task → List ℤ → List ℤ → List ℤ
let_values task sensors cells = let_values_after [] task.lets sensors cells

-- the expression that set rows give to a cell, if they set it
abbrev pub expression_for : List SetRow → ℕ → Option Expr
expression_for [] c = None
expression_for (row ∷ rows) c = if row.cell == c then Some row.value else expression_for rows c

-- the expression that a task gives to a cell, if it sets it
abbrev pub written : Task → ℕ → Option Expr
written task c = expression_for task.sets c

-- a cell after a task that gives it this expression, or none
abbrev pub cell_after : Task → List ℤ → List ℤ → ℕ → Option Expr → ℤ
cell_after task sensors cells c None = slice_index_or cells c (pos 0)
cell_after task sensors cells c (Some e) = value_of e (let_values task sensors cells) sensors cells

-- the cells after a task: all sets read the cells as the task found them
unfoldable pub cells_after_task : Task → List ℤ → List ℤ → List ℤ
cells_after_task task sensors cells = table (length cells) (λ c. cell_after task sensors cells c (written task c))
