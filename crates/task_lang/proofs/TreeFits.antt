-- What is printed of a tree has its tokens and few bytes, if what is printed of its parts does.
use Rattle.std.proofs.Common.{◌≡◌, ℕ, suc, ◌+◌, ◌^◌, ◌<◌, ◌≤◌, pos, true, false, List, [], ◌∷◌, ◌++◌, length, codes, cond, ◌∙◌, sym, ap, subst, arith}
use Rattle.std.specs.Fmt.{decimal}
use Rattle.std.proofs.lemmas.Fmt.{decimal_nonempty}
use Rattle.rcp_base.specs.Name.{is_name}
use Rattle.rcp_model.specs.declared.expr.Expr.{Expr}
use Rattle.rcp_model.specs.declared.expr.Expr.TheVariants as expr
use Rattle.rcp_model.specs.declared.expr.Op.{Op}
use Rattle.rcp_model.specs.declared.expr.Op.TheVariants as op
use Rattle.task_lang.specs.declared.token.Token.TheVariants as token
use Rattle.task_lang.specs.Words.{Scope}
use Rattle.task_lang.specs.Printing.{Printed, placed, leaf, call, infix_text, printed}
use Rattle.task_lang.specs.Signs.{sign_of, level_of, is_call}
use Rattle.task_lang.proofs.PrintedTokens.{PrintedTokens, placed_tokens, sign_token, leaf_token, call_tokens, infix_tokens, printed_tokens}
use Rattle.task_lang.proofs.PrintingSteps.{printed-number, printed-neg, printed-not, printed-abs, printed-two, printed-clamp, printed-if, tokens-number, tokens-neg, tokens-not, tokens-abs, tokens-two, tokens-clamp, tokens-if}
use Rattle.task_lang.proofs.Spelling.{abs_spelled, min_spelled, max_spelled, clamp_spelled, if_spelled}
use Rattle.task_lang.proofs.SpelledLeaves.{name_spelled, number_spelled, name_is_word}
use Rattle.task_lang.proofs.TokenSizes.{IsFine}
use Rattle.task_lang.proofs.Fits.{Fits, leaf_fits, minus_fits, not_fits, infix_fits, one_fits, two_fit, three_fit}

-- what is printed of the tree under a scope fits so many bytes
abbrev pub TreeFits : Scope → Expr → ℕ → Type 0
TreeFits scope a size = Fits (printed scope a) (printed_tokens scope a) size

-- by the equations of the fold
by_steps : (scope : Scope) (a : Expr) (p : Printed) (q : PrintedTokens) (size : ℕ) → printed scope a ≡ p → printed_tokens scope a ≡ q → Fits p q size → TreeFits scope a size
by_steps scope a p q size text_is tokens_are fits =
    let Tokens : PrintedTokens → Type 0 = λ tokens. Fits (printed scope a) tokens size in
    let Text : Printed → Type 0 = λ text. Fits text q size in
    subst Tokens (sym tokens_are) (subst Text (sym text_is) fits)

pub name_long : (name : List ℕ) → is_name name ≡ true → 0 < length name
name_long [] is = let none : false ≡ true = name_is_word [] is in cc
name_long (b ∷ bytes) is = omega arith

pub number_fits : (scope : Scope) (n : ℕ) (size : ℕ) → n < 2 ^ 63 → length (decimal n) ≤ size → TreeFits scope (expr.Number (pos n)) size
number_fits scope n size small short =
    by_steps scope (expr.Number (pos n)) (leaf (decimal n)) (leaf_token (token.Number (pos n))) size (printed-number scope (pos n)) (tokens-number scope (pos n))
    (leaf_fits (decimal n) (token.Number (pos n)) size (number_spelled n small) (decimal_nonempty n (omega arith)) short)

pub name_fits : (scope : Scope) (a : Expr) (name : List ℕ) → printed scope a ≡ leaf name → printed_tokens scope a ≡ leaf_token (token.Word name) → IsFine (token.Word name)
    → TreeFits scope a (length name)
name_fits scope a name text_is tokens_are fine =
    by_steps scope a (leaf name) (leaf_token (token.Word name)) (length name) text_is tokens_are
    (leaf_fits name (token.Word name) (length name) (name_spelled name fine.0 fine.1) (name_long name fine.0) (omega arith))

pub neg_fits : (scope : Scope) (a : Expr) (size : ℕ) → TreeFits scope a size → TreeFits scope (expr.Neg a) (suc size)
neg_fits scope a size fits =
    by_steps scope (expr.Neg a) (record { level = 7; text = codes "-" ++ placed 7 (printed scope a) }) (record { level = 7; tokens = token.Minus ∷ placed_tokens 7 (printed_tokens scope a) }) (suc size)
    (printed-neg scope a) (tokens-neg scope a) (minus_fits (printed scope a) (printed_tokens scope a) size fits)

pub denied_fits : (scope : Scope) (a : Expr) (size : ℕ) → TreeFits scope a size → TreeFits scope (expr.Not a) (3 + size)
denied_fits scope a size fits =
    by_steps scope (expr.Not a) (record { level = 3; text = codes "not " ++ placed 3 (printed scope a) }) (record { level = 3; tokens = token.Not ∷ placed_tokens 3 (printed_tokens scope a) }) (3 + size)
    (printed-not scope a) (tokens-not scope a) (not_fits (printed scope a) (printed_tokens scope a) size fits)

pub abs_fits : (scope : Scope) (a : Expr) (size : ℕ) → TreeFits scope a size → TreeFits scope (expr.Abs a) (3 + size)
abs_fits scope a size fits =
    by_steps scope (expr.Abs a) (call (codes "abs") (printed scope a ∷ [])) (call_tokens token.Abs (printed_tokens scope a ∷ [])) (3 + size)
    (printed-abs scope a) (tokens-abs scope a) (one_fits (codes "abs") token.Abs (printed scope a) (printed_tokens scope a) size abs_spelled (omega arith) fits)

-- an operator with a sign that is printed between its operands
abbrev pub IsInfix : Op → Type 0
IsInfix operator = (is_call operator ≡ false) × (0 < length (sign_of operator))

pub two_fits : (scope : Scope) (operator : Op) (a b : Expr) (size other : ℕ) → IsInfix operator → TreeFits scope a size → TreeFits scope b other
    → TreeFits scope (expr.Two operator a b) (size + (length (sign_of operator) + other))
two_fits scope operator a b size other infix_sign first second =
    let text : Printed = record { level = level_of operator; text = infix_text operator (printed scope a) (printed scope b) } in
    let tokens : PrintedTokens = record { level = level_of operator; tokens = infix_tokens operator (printed_tokens scope a) (printed_tokens scope b) } in
    by_steps scope (expr.Two operator a b) text tokens (size + (length (sign_of operator) + other))
    (printed-two scope operator a b ∙ ap (λ test. cond test (call (sign_of operator) (printed scope a ∷ printed scope b ∷ [])) text) infix_sign.0)
    (tokens-two scope operator a b ∙ ap (λ test. cond test (call_tokens (sign_token operator) (printed_tokens scope a ∷ printed_tokens scope b ∷ [])) tokens) infix_sign.0)
    (infix_fits operator (printed scope a) (printed scope b) (printed_tokens scope a) (printed_tokens scope b) size other infix_sign.0 infix_sign.1 first second)

pub least_fits : (scope : Scope) (a b : Expr) (size other : ℕ) → TreeFits scope a size → TreeFits scope b other → TreeFits scope (expr.Two op.Min a b) (3 + (size + other))
least_fits scope a b size other first second =
    by_steps scope (expr.Two op.Min a b) (call (codes "min") (printed scope a ∷ printed scope b ∷ [])) (call_tokens token.Min (printed_tokens scope a ∷ printed_tokens scope b ∷ [])) (3 + (size + other))
    (printed-two scope op.Min a b) (tokens-two scope op.Min a b)
    (two_fit (codes "min") token.Min (printed scope a) (printed scope b) (printed_tokens scope a) (printed_tokens scope b) size other min_spelled (omega arith) first second)

pub greatest_fits : (scope : Scope) (a b : Expr) (size other : ℕ) → TreeFits scope a size → TreeFits scope b other → TreeFits scope (expr.Two op.Max a b) (3 + (size + other))
greatest_fits scope a b size other first second =
    by_steps scope (expr.Two op.Max a b) (call (codes "max") (printed scope a ∷ printed scope b ∷ [])) (call_tokens token.Max (printed_tokens scope a ∷ printed_tokens scope b ∷ [])) (3 + (size + other))
    (printed-two scope op.Max a b) (tokens-two scope op.Max a b)
    (two_fit (codes "max") token.Max (printed scope a) (printed scope b) (printed_tokens scope a) (printed_tokens scope b) size other max_spelled (omega arith) first second)

pub clamp_fits : (scope : Scope) (a b c : Expr) (size other last : ℕ) → TreeFits scope a size → TreeFits scope b other → TreeFits scope c last
    → TreeFits scope (expr.Clamp a b c) (5 + (size + (other + last)))
clamp_fits scope a b c size other last first second third =
    by_steps scope (expr.Clamp a b c) (call (codes "clamp") (printed scope a ∷ printed scope b ∷ printed scope c ∷ []))
    (call_tokens token.Clamp (printed_tokens scope a ∷ printed_tokens scope b ∷ printed_tokens scope c ∷ [])) (5 + (size + (other + last)))
    (printed-clamp scope a b c) (tokens-clamp scope a b c)
    (three_fit (codes "clamp") token.Clamp (printed scope a) (printed scope b) (printed scope c) (printed_tokens scope a) (printed_tokens scope b) (printed_tokens scope c) size other last clamp_spelled (omega arith) first second third)

pub if_fits : (scope : Scope) (a b c : Expr) (size other last : ℕ) → TreeFits scope a size → TreeFits scope b other → TreeFits scope c last
    → TreeFits scope (expr.If a b c) (2 + (size + (other + last)))
if_fits scope a b c size other last first second third =
    by_steps scope (expr.If a b c) (call (codes "if") (printed scope a ∷ printed scope b ∷ printed scope c ∷ []))
    (call_tokens token.If (printed_tokens scope a ∷ printed_tokens scope b ∷ printed_tokens scope c ∷ [])) (2 + (size + (other + last)))
    (printed-if scope a b c) (tokens-if scope a b c)
    (three_fit (codes "if") token.If (printed scope a) (printed scope b) (printed scope c) (printed_tokens scope a) (printed_tokens scope b) (printed_tokens scope c) size other last if_spelled (omega arith) first second third)
