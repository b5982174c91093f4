-- A reader for each rule: a tree and the tokens after it, or how many tokens are left at the fault.
-- This project's own.
use Rattle.std.specs.Prelude.{ℕ, zero, suc, List, [], ◌∷◌, length, Option, Some, None, Result, Ok, Err}
use Rattle.rcp_base.specs.Answers.{◌>>=◌}
use Rattle.rcp_model.specs.declared.expr.Expr.{Expr}
use Rattle.rcp_model.specs.declared.expr.Expr.TheVariants as expr
use Rattle.task_lang.specs.declared.token.Token.{Token}
use Rattle.task_lang.specs.declared.token.Form.{Form}
use Rattle.task_lang.specs.Words.{Scope, leaf_of, or_op, and_op, comparison_op, sum_op, product_op, is_not, is_minus}
use Rattle.task_lang.specs.Forms.{form_of_token, parts_of_form, tree_of}
use Rattle.task_lang.specs.ReaderParts.{choose, Reader, made, chained, compared, enclosed, prefixed, sequence}

-- what stands behind the token that begins a form
abbrev pub formed : Form → Reader Expr → Reader Expr
formed form read tokens = sequence read (parts_of_form form) tokens >>= made (tree_of form)

abbrev pub prim : Scope → Option (Reader Expr) → Reader Expr
prim scope inner [] = Err 0
prim scope inner (token ∷ rest) =
    choose (leaf_of scope token)
    (choose (form_of_token token) (Err (suc (length rest))) (λ form. enclosed inner (formed form) (suc (length rest)) rest))
    (λ a. Ok (a, rest))

-- the readers for what brackets and prefixes enclose, if they may enclose anything
pub record Readers : Type 0 where
  pub expr : Option (Reader Expr)
  pub inv : Option (Reader Expr)
  pub unary : Option (Reader Expr)

-- the readers of one depth, over those for what is enclosed there
abbrev pub prim_reader : Scope → Readers → Reader Expr
prim_reader scope inner = prim scope inner.expr

abbrev pub unary_reader : Scope → Readers → Reader Expr
unary_reader scope inner = prefixed is_minus expr.Neg inner.unary (prim_reader scope inner)

abbrev pub product_reader : Scope → Readers → Reader Expr
product_reader scope inner = chained product_op (unary_reader scope inner)

abbrev pub sum_reader : Scope → Readers → Reader Expr
sum_reader scope inner = chained sum_op (product_reader scope inner)

abbrev pub comparison_reader : Scope → Readers → Reader Expr
comparison_reader scope inner = compared comparison_op (sum_reader scope inner)

abbrev pub inv_reader : Scope → Readers → Reader Expr
inv_reader scope inner = prefixed is_not expr.Not inner.inv (comparison_reader scope inner)

abbrev pub conj_reader : Scope → Readers → Reader Expr
conj_reader scope inner = chained and_op (inv_reader scope inner)

abbrev pub expr_reader : Scope → Readers → Reader Expr
expr_reader scope inner = chained or_op (conj_reader scope inner)

-- where at most this many brackets and prefixes may yet enclose a token
abbrev pub readers : Scope → ℕ → Readers
readers scope zero = record { expr = None; inv = None; unary = None }
readers scope (suc n) = record {
  expr = Some (expr_reader scope (readers scope n));
  inv = Some (inv_reader scope (readers scope n));
  unary = Some (unary_reader scope (readers scope n));
}

-- all tokens were read
abbrev pub alone : {X : Type 0} → X × List Token → Result X ℕ
alone (x, []) = Ok x
alone (x, token ∷ rest) = Err (suc (length rest))

abbrev pub whole : {X : Type 0} → Reader X → List Token → Result X ℕ
whole read tokens = read tokens >>= alone
