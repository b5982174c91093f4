-- The instructions of expressions and tasks: each operand's, and then the operator's. This project's own.
use Rattle.std.specs.Prelude.{ℕ, ◌+◌, List, [], ◌∷◌, ◌++◌, length, sum_by}
use Rattle.rcp_model.specs.declared.expr.Expr.{Expr, fold-Expr}
use Rattle.rcp_model.specs.declared.expr.Expr.TheOpen.{Expr-F}
use Rattle.rcp_model.specs.declared.expr.Op.{Op}
use Rattle.rcp_model.specs.declared.task.LetRow.{LetRow}
use Rattle.rcp_model.specs.declared.task.SetRow.{SetRow}
use Rattle.rcp_model.specs.declared.task.Task.{Task}
use Rattle.task_code.specs.declared.instruction.Instruction.{Instruction}
use Rattle.task_code.specs.declared.instruction.Instruction.TheVariants.{Number, Sensor, Cell, Let, Neg, Not, Abs, Two, WithNumber, WithSensor, WithCell, WithLet, Clamp, If, Keep, Give}

-- an operator after its right operand's one instruction: a leaf goes into the operator's
abbrev pub with_one : Op → Instruction → List Instruction
with_one op (Number n) = WithNumber op n ∷ []
with_one op (Sensor i) = WithSensor op i ∷ []
with_one op (Cell i) = WithCell op i ∷ []
with_one op (Let i) = WithLet op i ∷ []
with_one op instruction = instruction ∷ Two op ∷ []

-- an operator after the code of its right operand
abbrev pub with_operand : Op → List Instruction → List Instruction
with_operand op (instruction ∷ []) = with_one op instruction
with_operand op code = code ++ Two op ∷ []

-- the code of one level, over that of its operands
abbrev pub code_step : Expr-F (List Instruction) → List Instruction
code_step (Expr-F.Number n) = Number n ∷ []
code_step (Expr-F.Sensor i) = Sensor i ∷ []
code_step (Expr-F.Cell i) = Cell i ∷ []
code_step (Expr-F.Let i) = Let i ∷ []
code_step (Expr-F.Neg x) = x ++ Neg ∷ []
code_step (Expr-F.Not x) = x ++ Not ∷ []
code_step (Expr-F.Abs x) = x ++ Abs ∷ []
code_step (Expr-F.Two op a b) = a ++ with_operand op b
code_step (Expr-F.Clamp x low high) = x ++ (low ++ (high ++ Clamp ∷ []))
code_step (Expr-F.If test a b) = test ++ (a ++ (b ++ If ∷ []))

-- the code that puts an expression's value on the stack
abbrev pub code_of : Expr → List Instruction
code_of = fold-Expr (List Instruction) code_step

-- the code of let rows: each value is kept
abbrev pub lets_code : List LetRow → List Instruction
lets_code [] = []
lets_code (row ∷ rows) = code_of row.value ++ (Keep ∷ lets_code rows)

-- the code of set rows: each value is a result
abbrev pub sets_code : List SetRow → List Instruction
sets_code [] = []
sets_code (row ∷ rows) = code_of row.value ++ (Give ∷ sets_code rows)

-- the code of a task
abbrev pub task_code : Task → List Instruction
task_code task = lets_code task.lets ++ sets_code task.sets

-- the code of an expression that stands alone
abbrev pub expr_code : Expr → List Instruction
expr_code e = code_of e ++ Give ∷ []

-- the nodes of one level, over those of its operands
abbrev pub count_step : Expr-F ℕ → ℕ
count_step (Expr-F.Number n) = 1
count_step (Expr-F.Sensor i) = 1
count_step (Expr-F.Cell i) = 1
count_step (Expr-F.Let i) = 1
count_step (Expr-F.Neg x) = x + 1
count_step (Expr-F.Not x) = x + 1
count_step (Expr-F.Abs x) = x + 1
count_step (Expr-F.Two op a b) = a + b + 1
count_step (Expr-F.Clamp x low high) = x + low + high + 1
count_step (Expr-F.If test a b) = test + a + b + 1

-- the nodes of an expression
abbrev pub expr_size : Expr → ℕ
expr_size = fold-Expr ℕ count_step

-- the nodes of a task's expressions, its lets and its sets
abbrev pub task_size : Task → ℕ
task_size task =
    sum_by (λ row. expr_size row.value) task.lets + length task.lets
    + sum_by (λ row. expr_size row.value) task.sets + length task.sets
