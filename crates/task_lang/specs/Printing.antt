-- What is printed of an expression and of a task: as few brackets as the levels of the grammar leave.
-- This project's own.
use Rattle.std.specs.Prelude.{ℕ, suc, nat_lt, List, [], ◌∷◌, ◌++◌, map, codes, slice_index_or, if◌then◌else◌}
use Rattle.std.specs.Fmt.{signed_decimal}
use Rattle.rcp_model.specs.declared.expr.Expr.{Expr, fold-Expr}
use Rattle.rcp_model.specs.declared.expr.Expr.TheOpen.{Expr-F}
use Rattle.rcp_model.specs.declared.expr.Op.{Op}
use Rattle.rcp_model.specs.declared.task.LetRow.{LetRow}
use Rattle.rcp_model.specs.declared.task.SetRow.{SetRow}
use Rattle.rcp_model.specs.declared.task.Task.{Task}
use Rattle.task_lang.specs.Signs.{sign_of, level_of, left_place, is_call}
use Rattle.task_lang.specs.Words.{Scope}
use Rattle.task_lang.specs.Statements.{scope_of}

-- an expression without brackets round it, and its level: 1 is the loosest, 8 the tightest
pub record Printed : Type 0 where
  pub level : ℕ
  pub text : List ℕ

-- in brackets where its level is below the least level of its place
abbrev pub placed : ℕ → Printed → List ℕ
placed least printed = if nat_lt printed.level least then codes "(" ++ printed.text ++ codes ")" else printed.text

-- whole expressions with commas between them
abbrev pub listed : List Printed → List ℕ
listed [] = []
listed (a ∷ []) = placed 1 a
listed (a ∷ b ∷ others) = placed 1 a ++ codes ", " ++ listed (b ∷ others)

abbrev pub leaf : List ℕ → Printed
leaf text = record { level = 8; text = text }

abbrev pub call : List ℕ → List Printed → Printed
call word arguments = leaf (word ++ codes "(" ++ listed arguments ++ codes ")")

abbrev pub infix_text : Op → Printed → Printed → List ℕ
infix_text operator a b = placed (left_place operator) a ++ codes " " ++ sign_of operator ++ codes " " ++ placed (suc (level_of operator)) b

abbrev pub two : Op → Printed → Printed → Printed
two operator a b =
    if is_call operator then call (sign_of operator) (a ∷ b ∷ []) else record { level = level_of operator; text = infix_text operator a b }

-- the name of a number
abbrev pub name_at : List (List ℕ) → ℕ → List ℕ
name_at names i = slice_index_or names i []

-- one level, over what its operands are printed as
abbrev pub print_step : Scope → Expr-F Printed → Printed
print_step scope (Expr-F.Number n) = leaf (signed_decimal n)
print_step scope (Expr-F.Sensor i) = leaf (name_at scope.sensors i)
print_step scope (Expr-F.Cell i) = leaf (name_at scope.cells i)
print_step scope (Expr-F.Let i) = leaf (name_at scope.lets i)
print_step scope (Expr-F.Neg a) = record { level = 7; text = codes "-" ++ placed 7 a }
print_step scope (Expr-F.Not a) = record { level = 3; text = codes "not " ++ placed 3 a }
print_step scope (Expr-F.Abs a) = call (codes "abs") (a ∷ [])
print_step scope (Expr-F.Two operator a b) = two operator a b
print_step scope (Expr-F.Clamp a low high) = call (codes "clamp") (a ∷ low ∷ high ∷ [])
print_step scope (Expr-F.If test a b) = call (codes "if") (test ∷ a ∷ b ∷ [])

abbrev pub printed : Scope → Expr → Printed
printed scope = fold-Expr Printed (print_step scope)

-- the text of a whole expression
abbrev pub expr_text : Scope → Expr → List ℕ
expr_text scope a = placed 1 (printed scope a)

-- the names of lets
abbrev pub let_names : List LetRow → List (List ℕ)
let_names rows = map (λ row. row.name) rows

-- what is in scope behind all lets of a task
abbrev pub whole_scope : List (List ℕ) → List (List ℕ) → Task → Scope
whole_scope sensors cells task = scope_of sensors cells (let_names task.lets)

-- `let NAME = EXPR;`
abbrev pub let_text : Scope → LetRow → List ℕ
let_text scope row = codes "let " ++ row.name ++ codes " = " ++ expr_text scope row.value ++ codes ";"

-- `CELL := EXPR;`
abbrev pub set_text : Scope → SetRow → List ℕ
set_text scope row = name_at scope.cells row.cell ++ codes " := " ++ expr_text scope row.value ++ codes ";"

-- texts with one space between them
abbrev pub with_spaces : List (List ℕ) → List ℕ
with_spaces [] = []
with_spaces (text ∷ []) = text
with_spaces (text ∷ other ∷ others) = text ++ codes " " ++ with_spaces (other ∷ others)

-- a task's lets in order, then its sets in order
unfoldable pub task_text : List (List ℕ) → List (List ℕ) → Task → List ℕ
task_text sensors cells task =
    let scope = whole_scope sensors cells task in with_spaces (map (let_text scope) task.lets ++ map (set_text scope) task.sets)
