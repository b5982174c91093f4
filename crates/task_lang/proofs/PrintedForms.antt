-- The tokens of calls as sequences of the grammar, and the places beside each operator.
use Rattle.std.proofs.Common.{◌≡◌, ℕ, suc, List, [], ◌∷◌, ◌++◌, Option, Some, refl, subst, append_assoc}
use Rattle.rcp_model.specs.declared.expr.Expr.{Expr}
use Rattle.rcp_model.specs.declared.expr.Op.{Op}
use Rattle.rcp_model.specs.declared.expr.Op.TheVariants as op
use Rattle.task_lang.specs.declared.token.Token.{Token}
use Rattle.task_lang.specs.declared.token.Token.TheVariants as token
use Rattle.task_lang.specs.Words.{or_op, and_op, comparison_op, sum_op, product_op}
use Rattle.task_lang.specs.Forms.{one_argument, two_arguments, three_arguments}
use Rattle.task_lang.specs.Rules.{Sequence}
use Rattle.task_lang.proofs.PrintedTokens.{PrintedTokens, placed_tokens, sign_token, two_tokens}

module _ (Inner : List Token → Expr → Type 0) where
  pub one_listed : (front : List Token) (a : Expr) → Inner front a → Sequence Inner one_argument (token.Open ∷ front ++ token.Close ∷ []) (a ∷ [])
  one_listed front a derived =
      (front ++ token.Close ∷ [], refl, (front, token.Close ∷ [], a, [], refl, refl, derived, ([], refl, (refl, refl))))

  pub two_listed : (front behind : List Token) (a b : Expr) → Inner front a → Inner behind b
      → Sequence Inner two_arguments (token.Open ∷ (front ++ token.Comma ∷ behind) ++ token.Close ∷ []) (a ∷ b ∷ [])
  two_listed front behind a b derived other = (
    (front ++ token.Comma ∷ behind) ++ token.Close ∷ [],
    refl,
    (
      front,
      token.Comma ∷ behind ++ token.Close ∷ [],
      a,
      b ∷ [],
      append_assoc front (token.Comma ∷ behind) (token.Close ∷ []),
      refl,
      derived,
      (behind ++ token.Close ∷ [], refl, (behind, token.Close ∷ [], b, [], refl, refl, other, ([], refl, (refl, refl)))),
    ),
  )

  pub three_listed : (front middle behind : List Token) (a b c : Expr) → Inner front a → Inner middle b → Inner behind c
      → Sequence Inner three_arguments (token.Open ∷ (front ++ token.Comma ∷ (middle ++ token.Comma ∷ behind)) ++ token.Close ∷ []) (a ∷ b ∷ c ∷ [])
  three_listed front middle behind a b c derived second third = (
    (front ++ token.Comma ∷ (middle ++ token.Comma ∷ behind)) ++ token.Close ∷ [],
    refl,
    (
      front,
      token.Comma ∷ (middle ++ token.Comma ∷ behind) ++ token.Close ∷ [],
      a,
      b ∷ c ∷ [],
      append_assoc front (token.Comma ∷ (middle ++ token.Comma ∷ behind)) (token.Close ∷ []),
      refl,
      derived,
      (
        (middle ++ token.Comma ∷ behind) ++ token.Close ∷ [],
        refl,
        (
          middle,
          token.Comma ∷ behind ++ token.Close ∷ [],
          b,
          c ∷ [],
          append_assoc middle (token.Comma ∷ behind) (token.Close ∷ []),
          refl,
          second,
          (behind ++ token.Close ∷ [], refl, (behind, token.Close ∷ [], c, [], refl, refl, third, ([], refl, (refl, refl)))),
        ),
      ),
    ),
  )

-- an operator is printed with its sign between two places
pub record IsInfix (op_of : Token → Option Op) (left level : ℕ) (operator : Op) : Type 0 where
  pub sign : op_of (sign_token operator) ≡ Some operator
  pub shape : (a b : PrintedTokens) → two_tokens operator a b
      ≡ record { level = level; tokens = placed_tokens left a ++ sign_token operator ∷ placed_tokens (suc level) b }

pub or_infix : (first : Token) (operator : Op) → or_op first ≡ Some operator → IsInfix or_op 1 1 operator
or_infix token.Or operator is = let same : op.Or ≡ operator = cc in subst (IsInfix or_op 1 1) same (record { sign = refl; shape = λ a b. refl })
or_infix _ operator is = cc

pub and_infix : (first : Token) (operator : Op) → and_op first ≡ Some operator → IsInfix and_op 2 2 operator
and_infix token.And operator is = let same : op.And ≡ operator = cc in subst (IsInfix and_op 2 2) same (record { sign = refl; shape = λ a b. refl })
and_infix _ operator is = cc

pub comparison_infix : (first : Token) (operator : Op) → comparison_op first ≡ Some operator → IsInfix comparison_op 5 4 operator
comparison_infix token.EqualEqual operator is =
    let same : op.Eq ≡ operator = cc in subst (IsInfix comparison_op 5 4) same (record { sign = refl; shape = λ a b. refl })
comparison_infix token.NotEqual operator is =
    let same : op.Ne ≡ operator = cc in subst (IsInfix comparison_op 5 4) same (record { sign = refl; shape = λ a b. refl })
comparison_infix token.Less operator is =
    let same : op.Lt ≡ operator = cc in subst (IsInfix comparison_op 5 4) same (record { sign = refl; shape = λ a b. refl })
comparison_infix token.LessEqual operator is =
    let same : op.Le ≡ operator = cc in subst (IsInfix comparison_op 5 4) same (record { sign = refl; shape = λ a b. refl })
comparison_infix token.Greater operator is =
    let same : op.Gt ≡ operator = cc in subst (IsInfix comparison_op 5 4) same (record { sign = refl; shape = λ a b. refl })
comparison_infix token.GreaterEqual operator is =
    let same : op.Ge ≡ operator = cc in subst (IsInfix comparison_op 5 4) same (record { sign = refl; shape = λ a b. refl })
comparison_infix _ operator is = cc

pub sum_infix : (first : Token) (operator : Op) → sum_op first ≡ Some operator → IsInfix sum_op 5 5 operator
sum_infix token.Plus operator is = let same : op.Add ≡ operator = cc in subst (IsInfix sum_op 5 5) same (record { sign = refl; shape = λ a b. refl })
sum_infix token.Minus operator is = let same : op.Sub ≡ operator = cc in subst (IsInfix sum_op 5 5) same (record { sign = refl; shape = λ a b. refl })
sum_infix _ operator is = cc

pub product_infix : (first : Token) (operator : Op) → product_op first ≡ Some operator → IsInfix product_op 6 6 operator
product_infix token.Star operator is =
    let same : op.Mul ≡ operator = cc in subst (IsInfix product_op 6 6) same (record { sign = refl; shape = λ a b. refl })
product_infix token.Slash operator is =
    let same : op.Div ≡ operator = cc in subst (IsInfix product_op 6 6) same (record { sign = refl; shape = λ a b. refl })
product_infix token.Percent operator is =
    let same : op.Rem ≡ operator = cc in subst (IsInfix product_op 6 6) same (record { sign = refl; shape = λ a b. refl })
product_infix _ operator is = cc
