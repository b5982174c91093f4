-- The signs and words that are printed are no longer than the tokens that were read.
use Rattle.std.proofs.Common.{◌≡◌, ℕ, ◌≤◌, Option, Some, length, refl, subst, arith}
use Rattle.rcp_model.specs.declared.expr.Op.{Op}
use Rattle.task_lang.specs.declared.token.Token.{Token}
use Rattle.task_lang.specs.declared.token.Token.TheVariants as token
use Rattle.task_lang.specs.declared.token.Form.{Form}
use Rattle.task_lang.specs.declared.token.Form.TheVariants as form
use Rattle.task_lang.specs.Words.{or_op, and_op, comparison_op, sum_op, product_op}
use Rattle.task_lang.specs.Forms.{form_of_token}
use Rattle.task_lang.specs.Signs.{sign_of}
use Rattle.task_lang.proofs.TokenSizes.{size_of}
use Rattle.task_lang.proofs.TreeFits.{IsInfix}

-- the operator is printed by a sign, no longer than this token
abbrev pub HasSign : Token → Op → Type 0
HasSign t operator = IsInfix operator × (length (sign_of operator) ≤ size_of t)

-- so are all operators of a level
abbrev pub AreInfix : (Token → Option Op) → Type 0
AreInfix operator_of = (t : Token) (operator : Op) → operator_of t ≡ Some operator → HasSign t operator

same_operator : {a b : Op} → Some a ≡ Some b → a ≡ b
same_operator is = cc

pub or_infix : AreInfix or_op
or_infix token.Or operator is = subst (HasSign token.Or) (same_operator is) ((refl, omega arith), omega arith)
or_infix _ operator is = cc

pub and_infix : AreInfix and_op
and_infix token.And operator is = subst (HasSign token.And) (same_operator is) ((refl, omega arith), omega arith)
and_infix _ operator is = cc

pub sum_infix : AreInfix sum_op
sum_infix token.Plus operator is = subst (HasSign token.Plus) (same_operator is) ((refl, omega arith), omega arith)
sum_infix token.Minus operator is = subst (HasSign token.Minus) (same_operator is) ((refl, omega arith), omega arith)
sum_infix _ operator is = cc

pub product_infix : AreInfix product_op
product_infix token.Star operator is = subst (HasSign token.Star) (same_operator is) ((refl, omega arith), omega arith)
product_infix token.Slash operator is = subst (HasSign token.Slash) (same_operator is) ((refl, omega arith), omega arith)
product_infix token.Percent operator is = subst (HasSign token.Percent) (same_operator is) ((refl, omega arith), omega arith)
product_infix _ operator is = cc

pub comparison_infix : AreInfix comparison_op
comparison_infix token.EqualEqual operator is = subst (HasSign token.EqualEqual) (same_operator is) ((refl, omega arith), omega arith)
comparison_infix token.NotEqual operator is = subst (HasSign token.NotEqual) (same_operator is) ((refl, omega arith), omega arith)
comparison_infix token.LessEqual operator is = subst (HasSign token.LessEqual) (same_operator is) ((refl, omega arith), omega arith)
comparison_infix token.GreaterEqual operator is = subst (HasSign token.GreaterEqual) (same_operator is) ((refl, omega arith), omega arith)
comparison_infix token.Less operator is = subst (HasSign token.Less) (same_operator is) ((refl, omega arith), omega arith)
comparison_infix token.Greater operator is = subst (HasSign token.Greater) (same_operator is) ((refl, omega arith), omega arith)
comparison_infix _ operator is = cc

-- how long the word of a form is
abbrev pub word_size : Form → ℕ
word_size form.Brackets = 1
word_size form.Abs = 3
word_size form.Min = 3
word_size form.Max = 3
word_size form.Clamp = 5
word_size form.If = 2

same_form : {a b : Form} → Some a ≡ Some b → a ≡ b
same_form is = cc

pub word_is_short : (t : Token) (which : Form) → form_of_token t ≡ Some which → word_size which ≤ size_of t
word_is_short token.Open which is = subst (λ which. word_size which ≤ 1) (same_form is) (omega arith)
word_is_short token.Abs which is = subst (λ which. word_size which ≤ 3) (same_form is) (omega arith)
word_is_short token.Min which is = subst (λ which. word_size which ≤ 3) (same_form is) (omega arith)
word_is_short token.Max which is = subst (λ which. word_size which ≤ 3) (same_form is) (omega arith)
word_is_short token.Clamp which is = subst (λ which. word_size which ≤ 5) (same_form is) (omega arith)
word_is_short token.If which is = subst (λ which. word_size which ≤ 2) (same_form is) (omega arith)
word_is_short _ which is = cc
