-- What is printed of the tree of a text has its tokens, and at most four times the text's bytes.
use Rattle.std.proofs.Common.{◌≡◌, ℕ, zero, suc, ◌+◌, ◌≤◌, true, Option, Some, List, [], ◌∷◌, ◌++◌, length, sym, ap, subst, arith}
use Rattle.rcp_model.specs.declared.expr.Expr.{Expr}
use Rattle.rcp_model.specs.declared.expr.Expr.TheVariants as expr
use Rattle.rcp_model.specs.declared.expr.Op.{Op}
use Rattle.rcp_model.specs.declared.expr.Op.TheVariants as op
use Rattle.task_lang.specs.declared.token.Token.{Token}
use Rattle.task_lang.specs.declared.token.Token.TheVariants as token
use Rattle.task_lang.specs.declared.token.Form.{Form}
use Rattle.task_lang.specs.declared.token.Form.TheVariants as form
use Rattle.task_lang.specs.Words.{Scope, or_op, and_op, comparison_op, sum_op, product_op, is_not, is_minus}
use Rattle.task_lang.specs.Forms.{Part, Sign, Inside, parts_of_form, tree_of}
use Rattle.task_lang.specs.Rules.{LeftGrouped, one, more, Compared, single, pair, plain, prefixed_by, Sequence, leaf, within, Enclosed, enclosed_by, prim_rule, unary_rule, product_rule, sum_rule, inv_rule, conj_rule, expr_rule}
use Rattle.task_lang.specs.Signs.{sign_of}
use Rattle.task_lang.proofs.TokenSizes.{size_of, sizes_of, sizes_of-append, AllFine, fine_front, fine_back}
use Rattle.task_lang.proofs.Fits.{fits_more}
use Rattle.task_lang.proofs.TreeFits.{TreeFits, neg_fits, denied_fits, abs_fits, two_fits, least_fits, greatest_fits, clamp_fits, if_fits}
use Rattle.task_lang.proofs.SignSizes.{AreInfix, or_infix, and_infix, sum_infix, product_infix, comparison_infix, word_size, word_is_short}
use Rattle.task_lang.proofs.NamingLemmas.{GoesOn}
use Rattle.task_lang.proofs.LeafFits.{stand_in_fits, leaf_keeps}

-- what a rule writes with fine tokens fits them
abbrev Keeps : Scope → (List Token → Expr → Type 0) → Type 0
Keeps whole Rule = (tokens : List Token) (a : Expr) → AllFine tokens → Rule tokens a → TreeFits whole a (sizes_of tokens)

more_fits : (whole : Scope) (a : Expr) (size other : ℕ) → size ≤ other → TreeFits whole a size → TreeFits whole a other
more_fits whole a size other less fits = fits_more _ _ size other less fits

-- two trees with an operator between them
joined_fits : (whole : Scope) (operator_of : Token → Option Op) → AreInfix operator_of → (t : Token) (operator : Op) → operator_of t ≡ Some operator
    → (tokens behind : List Token) (a b : Expr) → TreeFits whole a (sizes_of tokens) → TreeFits whole b (sizes_of behind) → TreeFits whole (expr.Two operator a b) (sizes_of (tokens ++ t ∷ behind))
joined_fits whole operator_of infixes t operator is tokens behind a b first second =
    let sign = infixes t operator is in
    more_fits whole (expr.Two operator a b) (sizes_of tokens + (length (sign_of operator) + sizes_of behind)) (sizes_of (tokens ++ t ∷ behind))
    (omega (arith, sizes_of-append tokens (t ∷ behind), sign.1)) (two_fits whole operator a b (sizes_of tokens) (sizes_of behind) sign.0 first second)

grouped_keeps : (whole : Scope) (operator_of : Token → Option Op) (Operand : List Token → Expr → Type 0) → AreInfix operator_of → Keeps whole Operand → Keeps whole (LeftGrouped operator_of Operand)
grouped_keeps whole operator_of Operand infixes keeps tokens a fine (one list b derived) = keeps list b fine derived
grouped_keeps whole operator_of Operand infixes keeps tokens a fine (more list b front t operator is behind c derived) =
    joined_fits whole operator_of infixes t operator is list behind b c (grouped_keeps whole operator_of Operand infixes keeps list b (fine_front list (t ∷ behind) fine) front)
    (keeps behind c (fine_back list (t ∷ behind) fine).1 derived)

compared_keeps : (whole : Scope) (operator_of : Token → Option Op) (Operand : List Token → Expr → Type 0) → AreInfix operator_of → Keeps whole Operand → Keeps whole (Compared operator_of Operand)
compared_keeps whole operator_of Operand infixes keeps tokens a fine (single list b derived) = keeps list b fine derived
compared_keeps whole operator_of Operand infixes keeps tokens a fine (pair list b front t operator is behind c derived) =
    joined_fits whole operator_of infixes t operator is list behind b c (keeps list b (fine_front list (t ∷ behind) fine) front) (keeps behind c (fine_back list (t ∷ behind) fine).1 derived)

-- trees that fit so many bytes together
abbrev TreesFit : Scope → List Expr → ℕ → Type 0
TreesFit whole [] size = Unit {0}
TreesFit whole (a ∷ others) size = (first : ℕ) × (behind : ℕ) × (first + behind ≤ size) × TreeFits whole a first × TreesFit whole others behind

trees_fit_more : (whole : Scope) (trees : List Expr) (size other : ℕ) → size ≤ other → TreesFit whole trees size → TreesFit whole trees other
trees_fit_more whole [] size other less fit = tt
trees_fit_more whole (a ∷ trees) size other less fit = (fit.0, fit.1, omega (arith, fit.2), fit.3, fit.4)

sequence_keeps : (whole : Scope) (Inner : List Token → Expr → Type 0) → Keeps whole Inner → (parts : List Part) (tokens : List Token) (trees : List Expr) → AllFine tokens
    → Sequence Inner parts tokens trees → TreesFit whole trees (sizes_of tokens)
sequence_keeps whole Inner keeps [] tokens trees fine derived = subst (λ trees. TreesFit whole trees (sizes_of tokens)) (sym derived.1) tt
sequence_keeps whole Inner keeps (Sign mark ∷ parts) tokens trees fine derived =
    trees_fit_more whole trees (sizes_of derived.0) (sizes_of tokens) (omega (arith, ap sizes_of derived.1))
    (sequence_keeps whole Inner keeps parts derived.0 trees (subst AllFine derived.1 fine).1 derived.2)
sequence_keeps whole Inner keeps (Inside ∷ parts) tokens trees fine derived =
    let cut_fine : AllFine (derived.0 ++ derived.1) = subst AllFine derived.4 fine in
    subst (λ trees. TreesFit whole trees (sizes_of tokens)) (sym derived.5) (
      sizes_of derived.0,
      sizes_of derived.1,
      omega (arith, ap sizes_of derived.4, sizes_of-append derived.0 derived.1),
      keeps derived.0 derived.2 (fine_front derived.0 derived.1 cut_fine) derived.6,
      sequence_keeps whole Inner keeps parts derived.1 derived.3 (fine_back derived.0 derived.1 cut_fine) derived.7,
    )

-- forms
tree_fits : (whole : Scope) (which : Form) (trees : List Expr) (size : ℕ) → TreesFit whole trees size → TreeFits whole (tree_of which trees) (word_size which + size)
tree_fits whole form.Brackets [] size fit = stand_in_fits whole (1 + size) (omega arith)
tree_fits whole form.Brackets (a ∷ trees) size fit = more_fits whole a fit.0 (1 + size) (omega (arith, fit.2)) fit.3
tree_fits whole form.Abs [] size fit = stand_in_fits whole (3 + size) (omega arith)
tree_fits whole form.Abs (a ∷ trees) size fit =
    more_fits whole (expr.Abs a) (3 + fit.0) (3 + size) (omega (arith, fit.2)) (abs_fits whole a fit.0 fit.3)
tree_fits whole form.Min [] size fit = stand_in_fits whole (3 + size) (omega arith)
tree_fits whole form.Min (a ∷ []) size fit = stand_in_fits whole (3 + size) (omega arith)
tree_fits whole form.Min (a ∷ b ∷ trees) size fit =
    let behind = fit.4 in
    more_fits whole (expr.Two op.Min a b) (3 + (fit.0 + behind.0)) (3 + size) (omega (arith, fit.2, behind.2)) (least_fits whole a b fit.0 behind.0 fit.3 behind.3)
tree_fits whole form.Max [] size fit = stand_in_fits whole (3 + size) (omega arith)
tree_fits whole form.Max (a ∷ []) size fit = stand_in_fits whole (3 + size) (omega arith)
tree_fits whole form.Max (a ∷ b ∷ trees) size fit =
    let behind = fit.4 in
    more_fits whole (expr.Two op.Max a b) (3 + (fit.0 + behind.0)) (3 + size) (omega (arith, fit.2, behind.2)) (greatest_fits whole a b fit.0 behind.0 fit.3 behind.3)
tree_fits whole form.Clamp [] size fit = stand_in_fits whole (5 + size) (omega arith)
tree_fits whole form.Clamp (a ∷ []) size fit = stand_in_fits whole (5 + size) (omega arith)
tree_fits whole form.Clamp (a ∷ b ∷ []) size fit = stand_in_fits whole (5 + size) (omega arith)
tree_fits whole form.Clamp (a ∷ b ∷ c ∷ trees) size fit =
    let behind = fit.4 in
    let last = behind.4 in
    more_fits whole (expr.Clamp a b c) (5 + (fit.0 + (behind.0 + last.0))) (5 + size) (omega (arith, fit.2, behind.2, last.2)) (clamp_fits whole a b c fit.0 behind.0 last.0 fit.3 behind.3 last.3)
tree_fits whole form.If [] size fit = stand_in_fits whole (2 + size) (omega arith)
tree_fits whole form.If (a ∷ []) size fit = stand_in_fits whole (2 + size) (omega arith)
tree_fits whole form.If (a ∷ b ∷ []) size fit = stand_in_fits whole (2 + size) (omega arith)
tree_fits whole form.If (a ∷ b ∷ c ∷ trees) size fit =
    let behind = fit.4 in
    let last = behind.4 in
    more_fits whole (expr.If a b c) (2 + (fit.0 + (behind.0 + last.0))) (2 + size) (omega (arith, fit.2, behind.2, last.2)) (if_fits whole a b c fit.0 behind.0 last.0 fit.3 behind.3 last.3)

-- the rules of one depth
record AllKeep (whole : Scope) (inner : Enclosed) : Type 0 where
  expr : Keeps whole inner.expr
  inv : Keeps whole inner.inv
  unary : Keeps whole inner.unary

module _ (scope whole : Scope) (on : GoesOn scope whole) (inner : Enclosed) (keep : AllKeep whole inner) where
  prim_keeps : Keeps whole (prim_rule scope inner)
  prim_keeps tokens a fine (leaf t b is) = more_fits whole b (size_of t) (size_of t + 0) (omega arith) (leaf_keeps scope whole on t b is fine.0)
  prim_keeps tokens a fine (within t which is list trees derived) =
      more_fits whole (tree_of which trees) (word_size which + sizes_of list) (size_of t + sizes_of list) (omega (arith, word_is_short t which is))
      (tree_fits whole which trees (sizes_of list) (sequence_keeps whole inner.expr keep.expr (parts_of_form which) list trees fine.1 derived))

  unary_keeps : Keeps whole (unary_rule scope inner)
  unary_keeps tokens a fine (plain list b derived) = prim_keeps list b fine derived
  unary_keeps tokens a fine (prefixed_by t list b is derived) =
      more_fits whole (expr.Neg b) (suc (sizes_of list)) (size_of t + sizes_of list) (omega (arith, minus_size t is)) (neg_fits whole b (sizes_of list) (keep.unary list b fine.1 derived))
    where
      minus_size : (t : Token) → is_minus t ≡ true → 1 ≤ size_of t
      minus_size token.Minus is = omega arith
      minus_size _ is = cc

  sum_keeps : Keeps whole (sum_rule scope inner)
  sum_keeps =
      grouped_keeps whole sum_op (product_rule scope inner) sum_infix (grouped_keeps whole product_op (unary_rule scope inner) product_infix unary_keeps)

  inv_keeps : Keeps whole (inv_rule scope inner)
  inv_keeps tokens a fine (plain list b derived) = compared_keeps whole comparison_op (sum_rule scope inner) comparison_infix sum_keeps list b fine derived
  inv_keeps tokens a fine (prefixed_by t list b is derived) =
      more_fits whole (expr.Not b) (3 + sizes_of list) (size_of t + sizes_of list) (omega (arith, not_size t is)) (denied_fits whole b (sizes_of list) (keep.inv list b fine.1 derived))
    where
      not_size : (t : Token) → is_not t ≡ true → 3 ≤ size_of t
      not_size token.Not is = omega arith
      not_size _ is = cc

  expr_keeps : Keeps whole (expr_rule scope inner)
  expr_keeps = grouped_keeps whole or_op (conj_rule scope inner) or_infix (grouped_keeps whole and_op (inv_rule scope inner) and_infix inv_keeps)

all_keep : (scope whole : Scope) → GoesOn scope whole → (n : ℕ) → AllKeep whole (enclosed_by scope n)
all_keep scope whole on zero =
    record { expr = λ tokens a fine derived. absurd derived; inv = λ tokens a fine derived. absurd derived; unary = λ tokens a fine derived. absurd derived }
all_keep scope whole on (suc n) =
    let keep : AllKeep whole (enclosed_by scope n) = all_keep scope whole on n in
    record {
      expr = expr_keeps scope whole on (enclosed_by scope n) keep;
      inv = inv_keeps scope whole on (enclosed_by scope n) keep;
      unary = unary_keeps scope whole on (enclosed_by scope n) keep;
    }

pub expressions_fit : (scope whole : Scope) → GoesOn scope whole → (n : ℕ) (tokens : List Token) (a : Expr) → AllFine tokens → expr_rule scope (enclosed_by scope n) tokens a
    → TreeFits whole a (sizes_of tokens)
expressions_fit scope whole on n = expr_keeps scope whole on (enclosed_by scope n) (all_keep scope whole on n)
