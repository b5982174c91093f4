-- The reader of each level of the grammar is lawful, at each depth.
use Rattle.std.proofs.Common.{◌≡◌, ℕ, zero, suc, ◌<◌, List, ◌∷◌, length, Bool, true, false, Option, Some, Err, refl, arith}
use Rattle.rcp_model.specs.declared.expr.Expr.{Expr}
use Rattle.rcp_model.specs.declared.expr.Expr.TheVariants as expr
use Rattle.rcp_model.specs.declared.expr.Op.{Op}
use Rattle.task_lang.specs.declared.token.Token.{Token}
use Rattle.task_lang.specs.declared.token.Token.TheVariants as token
use Rattle.task_lang.specs.declared.token.Mark.{Mark}
use Rattle.task_lang.specs.declared.token.Mark.TheVariants as mark
use Rattle.task_lang.specs.Words.{Scope, or_op, and_op, comparison_op, sum_op, product_op, is_minus, is_not, token_of_mark}
use Rattle.task_lang.specs.Rules.{plain, prefixed_by, Enclosed, enclosed_by, prim_rule, unary_rule, product_rule, sum_rule, comparison_rule, inv_rule, conj_rule, expr_rule}
use Rattle.task_lang.specs.ReaderParts.{Reader}
use Rattle.task_lang.specs.Reader.{Readers, readers, prim, prim_reader, unary_reader, product_reader, sum_reader, comparison_reader, inv_reader, conj_reader, expr_reader}
use Rattle.task_lang.proofs.ReadingLaws.{Lawful}
use Rattle.task_lang.proofs.Prefixes.{LawfulInside, prefix_lawful}
use Rattle.task_lang.proofs.Chains.{goes_on, chain_lawful, chain_filled, compared_lawful, compared_filled}
use Rattle.task_lang.proofs.Sequences.{never}
use Rattle.task_lang.proofs.Prims.{prim_lawful, prim_filled}

-- the tokens that go on with what a level has read
abbrev pub product_goes : Token → Bool
product_goes = goes_on product_op never

abbrev pub sum_goes : Token → Bool
sum_goes = goes_on sum_op product_goes

abbrev pub comparison_goes : Token → Bool
comparison_goes = goes_on comparison_op sum_goes

abbrev pub conj_goes : Token → Bool
conj_goes = goes_on and_op comparison_goes

abbrev pub expr_goes : Token → Bool
expr_goes = goes_on or_op conj_goes

-- a mark ends an expression
pub mark_ends : (mark : Mark) → expr_goes (token_of_mark mark) ≡ false
mark_ends mark.Open = refl
mark_ends mark.Close = refl
mark_ends mark.Comma = refl
mark_ends mark.Assign = refl
mark_ends mark.Equal = refl
mark_ends mark.Semicolon = refl

-- an operator of a level ends its operands
pub product_apart : (token : Token) (operator : Op) → product_op token ≡ Some operator → never token ≡ false
product_apart token operator is = refl

pub sum_apart : (token : Token) (operator : Op) → sum_op token ≡ Some operator → product_goes token ≡ false
sum_apart token.Plus operator is = refl
sum_apart token.Minus operator is = refl
sum_apart _ operator is = cc

pub comparison_apart : (token : Token) (operator : Op) → comparison_op token ≡ Some operator → sum_goes token ≡ false
comparison_apart token.EqualEqual operator is = refl
comparison_apart token.NotEqual operator is = refl
comparison_apart token.Less operator is = refl
comparison_apart token.LessEqual operator is = refl
comparison_apart token.Greater operator is = refl
comparison_apart token.GreaterEqual operator is = refl
comparison_apart _ operator is = cc

pub and_apart : (token : Token) (operator : Op) → and_op token ≡ Some operator → comparison_goes token ≡ false
and_apart token.And operator is = refl
and_apart _ operator is = cc

pub or_apart : (token : Token) (operator : Op) → or_op token ≡ Some operator → conj_goes token ≡ false
or_apart token.Or operator is = refl
or_apart _ operator is = cc

-- what a prefix stands before is not what the level below begins with
minus_refused : (scope : Scope) (inner : Option (Reader Expr)) (token : Token) (rest : List Token) → is_minus token ≡ true
    → prim scope inner (token ∷ rest) ≡ Err (suc (length rest))
minus_refused scope inner token.Minus rest is = refl
minus_refused scope inner _ rest is = cc

not_refused : (scope : Scope) (inner : Readers) (token : Token) (rest : List Token) → is_not token ≡ true
    → comparison_reader scope inner (token ∷ rest) ≡ Err (suc (length rest))
not_refused scope inner token.Not rest is = refl
not_refused scope inner _ rest is = cc

-- the readers of what is enclosed are lawful
pub record AreLawful (rules : Enclosed) (inner : Readers) : Type 0 where
  pub expr : LawfulInside rules.expr expr_goes inner.expr
  pub inv : LawfulInside rules.inv comparison_goes inner.inv
  pub unary : LawfulInside rules.unary never inner.unary

module _ (scope : Scope) (rules : Enclosed) (inner : Readers) (law : AreLawful rules inner) where
  pub prim_level : Lawful (prim_rule scope rules) never (prim_reader scope inner)
  prim_level = prim_lawful scope rules.expr expr_goes mark_ends inner.expr law.expr

  pub unary_level : Lawful (unary_rule scope rules) never (unary_reader scope inner)
  unary_level =
      prefix_lawful is_minus expr.Neg rules.unary (prim_rule scope rules) never (prim_reader scope inner) prim_level (minus_refused scope inner.expr) inner.unary law.unary

  pub unary_filled : (tokens : List Token) (a : Expr) → unary_rule scope rules tokens a → 0 < length tokens
  unary_filled tokens a (plain list b derived) = prim_filled scope rules.expr expr_goes mark_ends list b derived
  unary_filled tokens a (prefixed_by token list b is derived) = omega arith

  pub product_level : Lawful (product_rule scope rules) product_goes (product_reader scope inner)
  product_level = chain_lawful product_op (unary_rule scope rules) never (unary_reader scope inner) unary_level product_apart unary_filled

  pub product_filled : (tokens : List Token) (a : Expr) → product_rule scope rules tokens a → 0 < length tokens
  product_filled = chain_filled product_op (unary_rule scope rules) never (unary_reader scope inner) unary_level product_apart unary_filled

  pub sum_level : Lawful (sum_rule scope rules) sum_goes (sum_reader scope inner)
  sum_level = chain_lawful sum_op (product_rule scope rules) product_goes (product_reader scope inner) product_level sum_apart product_filled

  pub sum_filled : (tokens : List Token) (a : Expr) → sum_rule scope rules tokens a → 0 < length tokens
  sum_filled = chain_filled sum_op (product_rule scope rules) product_goes (product_reader scope inner) product_level sum_apart product_filled

  pub comparison_level : Lawful (comparison_rule scope rules) comparison_goes (comparison_reader scope inner)
  comparison_level = compared_lawful comparison_op (sum_rule scope rules) sum_goes (sum_reader scope inner) sum_level comparison_apart

  pub comparison_filled : (tokens : List Token) (a : Expr) → comparison_rule scope rules tokens a → 0 < length tokens
  comparison_filled = compared_filled comparison_op (sum_rule scope rules) sum_goes (sum_reader scope inner) sum_level comparison_apart sum_filled

  pub inv_level : Lawful (inv_rule scope rules) comparison_goes (inv_reader scope inner)
  inv_level =
      prefix_lawful is_not expr.Not rules.inv (comparison_rule scope rules) comparison_goes (comparison_reader scope inner) comparison_level (not_refused scope inner) inner.inv law.inv

  pub inv_filled : (tokens : List Token) (a : Expr) → inv_rule scope rules tokens a → 0 < length tokens
  inv_filled tokens a (plain list b derived) = comparison_filled list b derived
  inv_filled tokens a (prefixed_by token list b is derived) = omega arith

  pub conj_level : Lawful (conj_rule scope rules) conj_goes (conj_reader scope inner)
  conj_level = chain_lawful and_op (inv_rule scope rules) comparison_goes (inv_reader scope inner) inv_level and_apart inv_filled

  pub conj_filled : (tokens : List Token) (a : Expr) → conj_rule scope rules tokens a → 0 < length tokens
  conj_filled = chain_filled and_op (inv_rule scope rules) comparison_goes (inv_reader scope inner) inv_level and_apart inv_filled

  pub expr_level : Lawful (expr_rule scope rules) expr_goes (expr_reader scope inner)
  expr_level = chain_lawful or_op (conj_rule scope rules) conj_goes (conj_reader scope inner) conj_level or_apart conj_filled

  pub expr_filled : (tokens : List Token) (a : Expr) → expr_rule scope rules tokens a → 0 < length tokens
  expr_filled = chain_filled or_op (conj_rule scope rules) conj_goes (conj_reader scope inner) conj_level or_apart conj_filled

-- so are those of each depth
pub readers_lawful : (scope : Scope) (n : ℕ) → AreLawful (enclosed_by scope n) (readers scope n)
readers_lawful scope zero = record { expr = λ tokens a derived. derived; inv = λ tokens a derived. derived; unary = λ tokens a derived. derived }
readers_lawful scope (suc n) =
    let law : AreLawful (enclosed_by scope n) (readers scope n) = readers_lawful scope n in
    record {
      expr = expr_level scope (enclosed_by scope n) (readers scope n) law;
      inv = inv_level scope (enclosed_by scope n) (readers scope n) law;
      unary = unary_level scope (enclosed_by scope n) (readers scope n) law;
    }

pub expr_lawful : (scope : Scope) (n : ℕ) → Lawful (expr_rule scope (enclosed_by scope n)) expr_goes (expr_reader scope (readers scope n))
expr_lawful scope n = expr_level scope (enclosed_by scope n) (readers scope n) (readers_lawful scope n)
