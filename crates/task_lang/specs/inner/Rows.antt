-- The rows of a body that is read statement by statement.
-- This project's own.
use Rattle.std.specs.Prelude.{ℕ, ◌≡◌, List, [], ◌∷◌, ◌++◌}
use Rattle.task_lang.specs.declared.statements.Statement.{Statement}
use Rattle.task_lang.specs.declared.statements.Rows.{Rows}
use Rattle.task_lang.specs.Statements.{lets_behind, let_rows, set_rows}

-- the rows with one statement more
pub record IsAdded (cells : List (List ℕ)) (statement : Statement) (old new : Rows) : Type 0 where
  pub names : new.names ≡ lets_behind old.names statement
  pub lets : new.lets ≡ old.lets ++ let_rows (statement ∷ [])
  pub sets : new.sets ≡ old.sets ++ set_rows cells (statement ∷ [])
