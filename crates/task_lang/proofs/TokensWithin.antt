-- The tokens of an expression are none of those that part statements: no `let`, `:=`, `=` or `;`.
use Rattle.std.proofs.Common.{◌≡◌, ℕ, zero, suc, List, [], ◌∷◌, ◌++◌, Bool, true, false, Option, Some, None, refl, ap, ◌∙◌}
use Rattle.std.specs.Prelude.{◌&&◌}
use Rattle.std.specs.List.{list_all}
use Rattle.rcp_model.specs.declared.expr.Expr.{Expr}
use Rattle.rcp_model.specs.declared.expr.Op.{Op}
use Rattle.task_lang.specs.declared.token.Token.{Token}
use Rattle.task_lang.specs.declared.token.Token.TheVariants as token
use Rattle.task_lang.specs.declared.token.Form.{Form}
use Rattle.task_lang.specs.declared.token.Form.TheVariants as form
use Rattle.task_lang.specs.Words.{Scope, leaf_of, or_op, and_op, comparison_op, sum_op, product_op, is_minus, is_not, token_of_mark}
use Rattle.task_lang.specs.Forms.{Part, Sign, Inside, form_of_token, parts_of_form}
use Rattle.task_lang.specs.Rules.{LeftGrouped, one, more, Compared, single, pair, plain, prefixed_by, Sequence, leaf, within, Enclosed, enclosed_by, prim_rule, unary_rule, product_rule, sum_rule, comparison_rule, inv_rule, conj_rule, expr_rule}
use Rattle.task_lang.proofs.PrintedNames.{all_in_both}

-- it parts no statements
abbrev pub is_inner : Token → Bool
is_inner token.Let = false
is_inner token.Assign = false
is_inner token.Equal = false
is_inner token.Semicolon = false
is_inner _ = true

abbrev AreInner : List Token → Type 0
AreInner tokens = list_all is_inner tokens ≡ true

-- a table without the tokens that part statements
record IsApart {Y : Type 0} (table : Token → Option Y) : Type 0 where
  no_let : table token.Let ≡ None
  no_assign : table token.Assign ≡ None
  no_equal : table token.Equal ≡ None
  no_semicolon : table token.Semicolon ≡ None

listed_inner : {Y : Type 0} (table : Token → Option Y) → IsApart table → (first : Token) (y : Y) → table first ≡ Some y → is_inner first ≡ true
listed_inner table apart token.Let y is = let no_let = apart.no_let in cc
listed_inner table apart token.Assign y is = let no_assign = apart.no_assign in cc
listed_inner table apart token.Equal y is = let no_equal = apart.no_equal in cc
listed_inner table apart token.Semicolon y is = let no_semicolon = apart.no_semicolon in cc
listed_inner table apart _ y is = refl

is_not_inner : (first : Token) → is_not first ≡ true → is_inner first ≡ true
is_not_inner token.Not is = refl
is_not_inner _ is = cc

is_minus_inner : (first : Token) → is_minus first ≡ true → is_inner first ≡ true
is_minus_inner token.Minus is = refl
is_minus_inner _ is = cc

with_first : (first : Token) (tokens : List Token) → is_inner first ≡ true → AreInner tokens → AreInner (first ∷ tokens)
with_first first tokens is all = ap (λ b. b && list_all is_inner tokens) is ∙ all

-- all that the rule writes is inner
abbrev WritesInner : (List Token → Expr → Type 0) → Type 0
WritesInner Writes = (tokens : List Token) (a : Expr) → Writes tokens a → AreInner tokens

with_operator : (op : Token → Option Op) → IsApart op → (front behind : List Token) (token : Token) (operator : Op) → op token ≡ Some operator → AreInner front → AreInner behind
    → AreInner (front ++ token ∷ behind)
with_operator op apart front behind token operator is first second =
    all_in_both is_inner front (token ∷ behind) first (with_first token behind (listed_inner op apart token operator is) second)

chain_inner : (op : Token → Option Op) → IsApart op → (Operand : List Token → Expr → Type 0) → WritesInner Operand → WritesInner (LeftGrouped op Operand)
chain_inner op apart Operand each tokens a (one list b derived) = each list b derived
chain_inner op apart Operand each tokens a (more list b front token operator is behind c derived) =
    with_operator op apart list behind token operator is (chain_inner op apart Operand each list b front) (each behind c derived)

compared_inner : (op : Token → Option Op) → IsApart op → (Operand : List Token → Expr → Type 0) → WritesInner Operand → WritesInner (Compared op Operand)
compared_inner op apart Operand each tokens a (single list b derived) = each list b derived
compared_inner op apart Operand each tokens a (pair list b front token operator is behind c derived) =
    with_operator op apart list behind token operator is (each list b front) (each behind c derived)

-- the marks of these parts are inner
abbrev MarksInner : List Part → Type 0
MarksInner [] = Unit {0}
MarksInner (Sign mark ∷ parts) = (is_inner (token_of_mark mark) ≡ true) × MarksInner parts
MarksInner (Inside ∷ parts) = MarksInner parts

forms_inner : (form : Form) → MarksInner (parts_of_form form)
forms_inner form.Brackets = (refl, tt)
forms_inner form.Abs = (refl, (refl, tt))
forms_inner form.Min = (refl, (refl, (refl, tt)))
forms_inner form.Max = (refl, (refl, (refl, tt)))
forms_inner form.Clamp = (refl, (refl, (refl, (refl, tt))))
forms_inner form.If = (refl, (refl, (refl, (refl, tt))))

sequence_inner : (Inner : List Token → Expr → Type 0) → WritesInner Inner → (parts : List Part) → MarksInner parts
    → (tokens : List Token) (trees : List Expr) → Sequence Inner parts tokens trees → AreInner tokens
sequence_inner Inner each [] marks tokens trees derived = ap (list_all is_inner) derived.0
sequence_inner Inner each (Sign mark ∷ parts) marks tokens trees derived =
    ap (list_all is_inner) derived.1
    ∙ with_first (token_of_mark mark) derived.0 marks.0 (sequence_inner Inner each parts marks.1 derived.0 trees derived.2)
sequence_inner Inner each (Inside ∷ parts) marks tokens trees derived =
    ap (list_all is_inner) derived.4
    ∙ all_in_both is_inner derived.0 derived.1 (each derived.0 derived.2 derived.6) (sequence_inner Inner each parts marks derived.1 derived.3 derived.7)

record AllInner (inner : Enclosed) : Type 0 where
  expr : WritesInner inner.expr
  inv : WritesInner inner.inv
  unary : WritesInner inner.unary

module _ (scope : Scope) (inner : Enclosed) (inside : AllInner inner) where
  prim_inner : WritesInner (prim_rule scope inner)
  prim_inner tokens a (leaf token b is) =
      with_first token [] (listed_inner (leaf_of scope) (record { no_let = refl; no_assign = refl; no_equal = refl; no_semicolon = refl }) token b is) refl
  prim_inner tokens a (within token form is list trees derived) =
      with_first token list (listed_inner form_of_token (record { no_let = refl; no_assign = refl; no_equal = refl; no_semicolon = refl }) token form is)
      (sequence_inner inner.expr inside.expr (parts_of_form form) (forms_inner form) list trees derived)

  unary_inner : WritesInner (unary_rule scope inner)
  unary_inner tokens a (plain list b derived) = prim_inner list b derived
  unary_inner tokens a (prefixed_by token list b is derived) = with_first token list (is_minus_inner token is) (inside.unary list b derived)

  sum_inner : WritesInner (sum_rule scope inner)
  sum_inner =
      chain_inner sum_op (record { no_let = refl; no_assign = refl; no_equal = refl; no_semicolon = refl }) (product_rule scope inner)
      (chain_inner product_op (record { no_let = refl; no_assign = refl; no_equal = refl; no_semicolon = refl }) (unary_rule scope inner) unary_inner)

  comparison_inner : WritesInner (comparison_rule scope inner)
  comparison_inner =
      compared_inner comparison_op (record { no_let = refl; no_assign = refl; no_equal = refl; no_semicolon = refl }) (sum_rule scope inner) sum_inner

  inv_inner : WritesInner (inv_rule scope inner)
  inv_inner tokens a (plain list b derived) = comparison_inner list b derived
  inv_inner tokens a (prefixed_by token list b is derived) = with_first token list (is_not_inner token is) (inside.inv list b derived)

  expr_inner : WritesInner (expr_rule scope inner)
  expr_inner =
      chain_inner or_op (record { no_let = refl; no_assign = refl; no_equal = refl; no_semicolon = refl }) (conj_rule scope inner)
      (chain_inner and_op (record { no_let = refl; no_assign = refl; no_equal = refl; no_semicolon = refl }) (inv_rule scope inner) inv_inner)

all_inner : (scope : Scope) (n : ℕ) → AllInner (enclosed_by scope n)
all_inner scope zero =
    record { expr = λ tokens a derived. absurd derived; inv = λ tokens a derived. absurd derived; unary = λ tokens a derived. absurd derived }
all_inner scope (suc n) =
    let inner = enclosed_by scope n in
    let inside : AllInner inner = all_inner scope n in
    record { expr = expr_inner scope inner inside; inv = inv_inner scope inner inside; unary = unary_inner scope inner inside }

-- no token of an expression parts statements
pub tokens_inner : (scope : Scope) (n : ℕ) (tokens : List Token) (a : Expr) → expr_rule scope (enclosed_by scope n) tokens a → list_all is_inner tokens ≡ true
tokens_inner scope n = expr_inner scope (enclosed_by scope n) (all_inner scope n)
