-- The tokens of what is printed: the printing of texts again, token by token.
-- This project's own.
use Rattle.std.specs.Prelude.{ℕ, suc, nat_lt, List, [], ◌∷◌, ◌++◌, flat_map, if◌then◌else◌}
use Rattle.rcp_model.specs.declared.expr.Expr.{Expr, fold-Expr}
use Rattle.rcp_model.specs.declared.expr.Expr.TheOpen.{Expr-F}
use Rattle.rcp_model.specs.declared.expr.Op.{Op}
use Rattle.rcp_model.specs.declared.expr.Op.TheVariants as op
use Rattle.rcp_model.specs.declared.task.LetRow.{LetRow}
use Rattle.rcp_model.specs.declared.task.SetRow.{SetRow}
use Rattle.rcp_model.specs.declared.task.Task.{Task}
use Rattle.task_lang.specs.declared.token.Token.{Token}
use Rattle.task_lang.specs.declared.token.Token.TheVariants as token
use Rattle.task_lang.specs.Words.{Scope}
use Rattle.task_lang.specs.Signs.{level_of, left_place, is_call}
use Rattle.task_lang.specs.Printing.{name_at, whole_scope}

-- the tokens of an expression without brackets round it, and its level
pub record PrintedTokens : Type 0 where
  pub level : ℕ
  pub tokens : List Token

abbrev pub placed_tokens : ℕ → PrintedTokens → List Token
placed_tokens least printed =
    if nat_lt printed.level least then token.Open ∷ printed.tokens ++ token.Close ∷ [] else printed.tokens

-- the token of an operator's sign or word
abbrev pub sign_token : Op → Token
sign_token op.Or = token.Or
sign_token op.And = token.And
sign_token op.Eq = token.EqualEqual
sign_token op.Ne = token.NotEqual
sign_token op.Lt = token.Less
sign_token op.Le = token.LessEqual
sign_token op.Gt = token.Greater
sign_token op.Ge = token.GreaterEqual
sign_token op.Add = token.Plus
sign_token op.Sub = token.Minus
sign_token op.Mul = token.Star
sign_token op.Div = token.Slash
sign_token op.Rem = token.Percent
sign_token op.Min = token.Min
sign_token op.Max = token.Max

abbrev pub listed_tokens : List PrintedTokens → List Token
listed_tokens [] = []
listed_tokens (a ∷ []) = placed_tokens 1 a
listed_tokens (a ∷ b ∷ others) = placed_tokens 1 a ++ token.Comma ∷ listed_tokens (b ∷ others)

abbrev pub leaf_token : Token → PrintedTokens
leaf_token leaf = record { level = 8; tokens = leaf ∷ [] }

abbrev pub call_tokens : Token → List PrintedTokens → PrintedTokens
call_tokens word arguments = record { level = 8; tokens = word ∷ token.Open ∷ listed_tokens arguments ++ token.Close ∷ [] }

abbrev pub infix_tokens : Op → PrintedTokens → PrintedTokens → List Token
infix_tokens operator a b = placed_tokens (left_place operator) a ++ sign_token operator ∷ placed_tokens (suc (level_of operator)) b

abbrev pub two_tokens : Op → PrintedTokens → PrintedTokens → PrintedTokens
two_tokens operator a b =
    if is_call operator then call_tokens (sign_token operator) (a ∷ b ∷ [])
    else record { level = level_of operator; tokens = infix_tokens operator a b }

abbrev pub tokens_step : Scope → Expr-F PrintedTokens → PrintedTokens
tokens_step scope (Expr-F.Number n) = leaf_token (token.Number n)
tokens_step scope (Expr-F.Sensor i) = leaf_token (token.Word (name_at scope.sensors i))
tokens_step scope (Expr-F.Cell i) = leaf_token (token.Word (name_at scope.cells i))
tokens_step scope (Expr-F.Let i) = leaf_token (token.Word (name_at scope.lets i))
tokens_step scope (Expr-F.Neg a) = record { level = 7; tokens = token.Minus ∷ placed_tokens 7 a }
tokens_step scope (Expr-F.Not a) = record { level = 3; tokens = token.Not ∷ placed_tokens 3 a }
tokens_step scope (Expr-F.Abs a) = call_tokens token.Abs (a ∷ [])
tokens_step scope (Expr-F.Two operator a b) = two_tokens operator a b
tokens_step scope (Expr-F.Clamp a low high) = call_tokens token.Clamp (a ∷ low ∷ high ∷ [])
tokens_step scope (Expr-F.If test a b) = call_tokens token.If (test ∷ a ∷ b ∷ [])

abbrev pub printed_tokens : Scope → Expr → PrintedTokens
printed_tokens scope = fold-Expr PrintedTokens (tokens_step scope)

-- the tokens of a whole expression
abbrev pub expr_tokens : Scope → Expr → List Token
expr_tokens scope a = placed_tokens 1 (printed_tokens scope a)

abbrev pub let_tokens : Scope → LetRow → List Token
let_tokens scope row = token.Let ∷ token.Word row.name ∷ token.Equal ∷ expr_tokens scope row.value ++ token.Semicolon ∷ []

abbrev pub set_tokens : Scope → SetRow → List Token
set_tokens scope row = token.Word (name_at scope.cells row.cell) ∷ token.Assign ∷ expr_tokens scope row.value ++ token.Semicolon ∷ []

-- the tokens of a task's lets in order, then of its sets in order
unfoldable pub task_tokens : List (List ℕ) → List (List ℕ) → Task → List Token
task_tokens sensors cells task =
    let scope = whole_scope sensors cells task in flat_map (let_tokens scope) task.lets ++ flat_map (set_tokens scope) task.sets
