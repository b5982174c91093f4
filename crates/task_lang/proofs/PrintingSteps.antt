-- What is printed of an expression, over what its operands are printed as.
use Rattle.std.proofs.Common.{◌≡◌, ℕ, ℤ, [], ◌∷◌, rules}
use Rattle.std.specs.Fmt.{signed_decimal}
use Rattle.std.specs.Prelude.{codes, ◌++◌}
use Rattle.rcp_model.specs.declared.expr.Expr.{Expr, the_lemmas}
use Rattle.rcp_model.specs.declared.expr.Expr.TheVariants as expr
use Rattle.rcp_model.specs.declared.expr.Op.{Op}
use Rattle.task_lang.specs.declared.token.Token.TheVariants as token
use Rattle.task_lang.specs.Words.{Scope}
use Rattle.task_lang.specs.Printing.{placed, leaf, call, two, name_at, printed}
use Rattle.task_lang.proofs.PrintedTokens.{placed_tokens, leaf_token, call_tokens, two_tokens, printed_tokens}

pub printed-number : (scope : Scope) (n : ℤ) → printed scope (expr.Number n) ≡ leaf (signed_decimal n)
printed-number scope n = search (rules, the_lemmas)

pub printed-sensor : (scope : Scope) (i : ℕ) → printed scope (expr.Sensor i) ≡ leaf (name_at scope.sensors i)
printed-sensor scope i = search (rules, the_lemmas)

pub printed-cell : (scope : Scope) (i : ℕ) → printed scope (expr.Cell i) ≡ leaf (name_at scope.cells i)
printed-cell scope i = search (rules, the_lemmas)

pub printed-let : (scope : Scope) (i : ℕ) → printed scope (expr.Let i) ≡ leaf (name_at scope.lets i)
printed-let scope i = search (rules, the_lemmas)

pub printed-neg : (scope : Scope) (a : Expr) → printed scope (expr.Neg a) ≡ record { level = 7; text = codes "-" ++ placed 7 (printed scope a) }
printed-neg scope a = search (rules, the_lemmas)

pub printed-not : (scope : Scope) (a : Expr) → printed scope (expr.Not a) ≡ record { level = 3; text = codes "not " ++ placed 3 (printed scope a) }
printed-not scope a = search (rules, the_lemmas)

pub printed-abs : (scope : Scope) (a : Expr) → printed scope (expr.Abs a) ≡ call (codes "abs") (printed scope a ∷ [])
printed-abs scope a = search (rules, the_lemmas)

pub printed-two : (scope : Scope) (op : Op) (a b : Expr) → printed scope (expr.Two op a b) ≡ two op (printed scope a) (printed scope b)
printed-two scope op a b = search (rules, the_lemmas)

pub printed-clamp : (scope : Scope) (a b c : Expr) → printed scope (expr.Clamp a b c) ≡ call (codes "clamp") (printed scope a ∷ printed scope b ∷ printed scope c ∷ [])
printed-clamp scope a b c = search (rules, the_lemmas)

pub printed-if : (scope : Scope) (a b c : Expr) → printed scope (expr.If a b c) ≡ call (codes "if") (printed scope a ∷ printed scope b ∷ printed scope c ∷ [])
printed-if scope a b c = search (rules, the_lemmas)

pub tokens-number : (scope : Scope) (n : ℤ) → printed_tokens scope (expr.Number n) ≡ leaf_token (token.Number n)
tokens-number scope n = search (rules, the_lemmas)

pub tokens-sensor : (scope : Scope) (i : ℕ) → printed_tokens scope (expr.Sensor i) ≡ leaf_token (token.Word (name_at scope.sensors i))
tokens-sensor scope i = search (rules, the_lemmas)

pub tokens-cell : (scope : Scope) (i : ℕ) → printed_tokens scope (expr.Cell i) ≡ leaf_token (token.Word (name_at scope.cells i))
tokens-cell scope i = search (rules, the_lemmas)

pub tokens-let : (scope : Scope) (i : ℕ) → printed_tokens scope (expr.Let i) ≡ leaf_token (token.Word (name_at scope.lets i))
tokens-let scope i = search (rules, the_lemmas)

pub tokens-neg : (scope : Scope) (a : Expr) → printed_tokens scope (expr.Neg a) ≡ record { level = 7; tokens = token.Minus ∷ placed_tokens 7 (printed_tokens scope a) }
tokens-neg scope a = search (rules, the_lemmas)

pub tokens-not : (scope : Scope) (a : Expr) → printed_tokens scope (expr.Not a) ≡ record { level = 3; tokens = token.Not ∷ placed_tokens 3 (printed_tokens scope a) }
tokens-not scope a = search (rules, the_lemmas)

pub tokens-abs : (scope : Scope) (a : Expr) → printed_tokens scope (expr.Abs a) ≡ call_tokens token.Abs (printed_tokens scope a ∷ [])
tokens-abs scope a = search (rules, the_lemmas)

pub tokens-two : (scope : Scope) (op : Op) (a b : Expr) → printed_tokens scope (expr.Two op a b) ≡ two_tokens op (printed_tokens scope a) (printed_tokens scope b)
tokens-two scope op a b = search (rules, the_lemmas)

pub tokens-clamp : (scope : Scope) (a b c : Expr) → printed_tokens scope (expr.Clamp a b c) ≡ call_tokens token.Clamp (printed_tokens scope a ∷ printed_tokens scope b ∷ printed_tokens scope c ∷ [])
tokens-clamp scope a b c = search (rules, the_lemmas)

pub tokens-if : (scope : Scope) (a b c : Expr) → printed_tokens scope (expr.If a b c) ≡ call_tokens token.If (printed_tokens scope a ∷ printed_tokens scope b ∷ printed_tokens scope c ∷ [])
tokens-if scope a b c = search (rules, the_lemmas)
