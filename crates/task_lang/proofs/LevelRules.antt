-- The rule of each level by its number; a tighter level serves for a looser one, and more depth does no harm.
use Rattle.std.proofs.Common.{◌≡◌, ℕ, zero, suc, ◌+◌, ◌-◌, ◌≤◌, List, [], ◌∷◌, Bool, Option, refl, subst, arith}
use Rattle.rcp_model.specs.declared.expr.Expr.{Expr}
use Rattle.rcp_model.specs.declared.expr.Expr.TheVariants as expr
use Rattle.rcp_model.specs.declared.expr.Op.{Op}
use Rattle.task_lang.specs.declared.token.Token.{Token}
use Rattle.task_lang.specs.Words.{Scope, or_op, and_op, comparison_op, sum_op, product_op, is_minus, is_not}
use Rattle.task_lang.specs.Forms.{Part, Sign, Inside, parts_of_form}
use Rattle.task_lang.specs.Rules.{Rule, LeftGrouped, one, more, Compared, single, pair, Prefixed, plain, prefixed_by, Sequence, leaf, within, Enclosed, enclosed_by, prim_rule, unary_rule, product_rule, sum_rule, comparison_rule, inv_rule, conj_rule, expr_rule}

-- the rule of a level by its number, 1 to 8
abbrev pub rule_at : ℕ → Scope → Enclosed → Rule Expr
rule_at zero = expr_rule
rule_at (suc zero) = expr_rule
rule_at (suc (suc zero)) = conj_rule
rule_at (suc (suc (suc zero))) = inv_rule
rule_at (suc (suc (suc (suc zero)))) = comparison_rule
rule_at (suc (suc (suc (suc (suc zero))))) = sum_rule
rule_at (suc (suc (suc (suc (suc (suc zero)))))) = product_rule
rule_at (suc (suc (suc (suc (suc (suc (suc zero))))))) = unary_rule
rule_at (suc (suc (suc (suc (suc (suc (suc (suc n)))))))) = prim_rule

module _ (scope : Scope) (inner : Enclosed) where
  one_looser : (k : ℕ) (tokens : List Token) (a : Expr) → rule_at (suc k) scope inner tokens a → rule_at k scope inner tokens a
  one_looser zero tokens a derived = derived
  one_looser (suc zero) tokens a derived = one tokens a derived
  one_looser (suc (suc zero)) tokens a derived = one tokens a derived
  one_looser (suc (suc (suc zero))) tokens a derived = plain tokens a derived
  one_looser (suc (suc (suc (suc zero)))) tokens a derived = single tokens a derived
  one_looser (suc (suc (suc (suc (suc zero))))) tokens a derived = one tokens a derived
  one_looser (suc (suc (suc (suc (suc (suc zero)))))) tokens a derived = one tokens a derived
  one_looser (suc (suc (suc (suc (suc (suc (suc zero))))))) tokens a derived = plain tokens a derived
  one_looser (suc (suc (suc (suc (suc (suc (suc (suc n)))))))) tokens a derived = derived

  looser_by : (n k j : ℕ) → j ≡ n + k → (tokens : List Token) (a : Expr) → rule_at j scope inner tokens a → rule_at k scope inner tokens a
  looser_by zero k j is tokens a derived = let same : j ≡ k = omega arith in subst (λ i. rule_at i scope inner tokens a) same derived
  looser_by (suc n) k j is tokens a derived =
      let next : j ≡ suc (n + k) = omega arith in
      looser_by n k (n + k) refl tokens a (one_looser (n + k) tokens a (subst (λ i. rule_at i scope inner tokens a) next derived))

  -- what a tighter level derives, a looser one does
  pub looser : (k j : ℕ) → k ≤ j → (tokens : List Token) (a : Expr) → rule_at j scope inner tokens a → rule_at k scope inner tokens a
  looser k j below = looser_by (j - k) k j (omega arith)

-- what one rule derives, another does
abbrev Includes : {X : Type 0} → (List Token → X → Type 0) → (List Token → X → Type 0) → Type 0
Includes {X} More Less = (tokens : List Token) (a : X) → Less tokens a → More tokens a

chain_includes : (op : Token → Option Op) (More Less : List Token → Expr → Type 0) → Includes More Less → Includes (LeftGrouped op More) (LeftGrouped op Less)
chain_includes op More Less includes tokens a (one list b derived) = one list b (includes list b derived)
chain_includes op More Less includes tokens a (more list b front token operator is behind c derived) =
    more list b (chain_includes op More Less includes list b front) token operator is behind c (includes behind c derived)

compared_includes : (op : Token → Option Op) (More Less : List Token → Expr → Type 0) → Includes More Less → Includes (Compared op More) (Compared op Less)
compared_includes op More Less includes tokens a (single list b derived) = single list b (includes list b derived)
compared_includes op More Less includes tokens a (pair list b front token operator is behind c derived) =
    pair list b (includes list b front) token operator is behind c (includes behind c derived)

prefixed_includes : (is : Token → Bool) (make : Expr → Expr) (MoreBehind More Behind Less : List Token → Expr → Type 0) → Includes MoreBehind Behind → Includes More Less
    → Includes (Prefixed is make MoreBehind More) (Prefixed is make Behind Less)
prefixed_includes is make MoreBehind More Behind Less behind includes tokens a (plain list b derived) = plain list b (includes list b derived)
prefixed_includes is make MoreBehind More Behind Less behind includes tokens a (prefixed_by token list b same derived) = prefixed_by token list b same (behind list b derived)

sequence_includes : (More Less : List Token → Expr → Type 0) → Includes More Less → (parts : List Part) → Includes (Sequence More parts) (Sequence Less parts)
sequence_includes More Less includes [] tokens trees derived = derived
sequence_includes More Less includes (Sign mark ∷ parts) tokens trees derived =
    (derived.0, derived.1, sequence_includes More Less includes parts derived.0 trees derived.2)
sequence_includes More Less includes (Inside ∷ parts) tokens trees derived = (
  derived.0,
  derived.1,
  derived.2,
  derived.3,
  derived.4,
  derived.5,
  includes derived.0 derived.2 derived.6,
  sequence_includes More Less includes parts derived.1 derived.3 derived.7,
)

record EnclosesAll (more less : Enclosed) : Type 0 where
  expr : Includes more.expr less.expr
  inv : Includes more.inv less.inv
  unary : Includes more.unary less.unary

module _ (scope : Scope) (more less : Enclosed) (all : EnclosesAll more less) where
  prim_includes : Includes (prim_rule scope more) (prim_rule scope less)
  prim_includes tokens a (leaf token b is) = leaf token b is
  prim_includes tokens a (within token form is list trees derived) =
      within token form is list trees (sequence_includes more.expr less.expr all.expr (parts_of_form form) list trees derived)

  unary_includes : Includes (unary_rule scope more) (unary_rule scope less)
  unary_includes = prefixed_includes is_minus expr.Neg more.unary (prim_rule scope more) less.unary (prim_rule scope less) all.unary prim_includes

  product_includes : Includes (product_rule scope more) (product_rule scope less)
  product_includes = chain_includes product_op (unary_rule scope more) (unary_rule scope less) unary_includes

  sum_includes : Includes (sum_rule scope more) (sum_rule scope less)
  sum_includes = chain_includes sum_op (product_rule scope more) (product_rule scope less) product_includes

  comparison_includes : Includes (comparison_rule scope more) (comparison_rule scope less)
  comparison_includes = compared_includes comparison_op (sum_rule scope more) (sum_rule scope less) sum_includes

  inv_includes : Includes (inv_rule scope more) (inv_rule scope less)
  inv_includes = prefixed_includes is_not expr.Not more.inv (comparison_rule scope more) less.inv (comparison_rule scope less) all.inv comparison_includes

  conj_includes : Includes (conj_rule scope more) (conj_rule scope less)
  conj_includes = chain_includes and_op (inv_rule scope more) (inv_rule scope less) inv_includes

  expr_includes : Includes (expr_rule scope more) (expr_rule scope less)
  expr_includes = chain_includes or_op (conj_rule scope more) (conj_rule scope less) conj_includes

  level_includes : (k : ℕ) → Includes (rule_at k scope more) (rule_at k scope less)
  level_includes zero = expr_includes
  level_includes (suc zero) = expr_includes
  level_includes (suc (suc zero)) = conj_includes
  level_includes (suc (suc (suc zero))) = inv_includes
  level_includes (suc (suc (suc (suc zero)))) = comparison_includes
  level_includes (suc (suc (suc (suc (suc zero))))) = sum_includes
  level_includes (suc (suc (suc (suc (suc (suc zero)))))) = product_includes
  level_includes (suc (suc (suc (suc (suc (suc (suc zero))))))) = unary_includes
  level_includes (suc (suc (suc (suc (suc (suc (suc (suc n)))))))) = prim_includes

deeper_encloses : (scope : Scope) (n : ℕ) → EnclosesAll (enclosed_by scope (suc n)) (enclosed_by scope n)
deeper_encloses scope zero =
    record { expr = λ tokens a derived. absurd derived; inv = λ tokens a derived. absurd derived; unary = λ tokens a derived. absurd derived }
deeper_encloses scope (suc n) =
    let all : EnclosesAll (enclosed_by scope (suc n)) (enclosed_by scope n) = deeper_encloses scope n in
    let more = enclosed_by scope (suc n) in
    let less = enclosed_by scope n in
    record { expr = expr_includes scope more less all; inv = inv_includes scope more less all; unary = unary_includes scope more less all }

-- what is derived is derived where one bracket more may enclose a token
pub deeper : (scope : Scope) (n k : ℕ) (tokens : List Token) (a : Expr) → rule_at k scope (enclosed_by scope n) tokens a → rule_at k scope (enclosed_by scope (suc n)) tokens a
deeper scope n k = level_includes scope (enclosed_by scope (suc n)) (enclosed_by scope n) (deeper_encloses scope n) k
