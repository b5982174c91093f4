-- The grammar of expressions: which tokens write which tree. Each rule is made of those below it.
-- This project's own.
use Rattle.std.specs.Prelude.{ℕ, zero, suc, ◌≡◌, Bool, true, List, [], ◌∷◌, ◌++◌, Option, Some}
use Rattle.rcp_model.specs.declared.expr.Expr.{Expr}
use Rattle.rcp_model.specs.declared.expr.Expr.TheVariants as expr
use Rattle.rcp_model.specs.declared.expr.Op.{Op}
use Rattle.task_lang.specs.declared.token.Token.{Token}
use Rattle.task_lang.specs.declared.token.Form.{Form}
use Rattle.task_lang.specs.Words.{Scope, leaf_of, or_op, and_op, comparison_op, sum_op, product_op, is_not, is_minus, token_of_mark}
use Rattle.task_lang.specs.Forms.{Part, Sign, Inside, form_of_token, parts_of_form, tree_of}

-- which tokens write which tree
abbrev pub Rule : Type 0 → Type 1
Rule X = List Token → X → Type 0

-- operands with operators between them, grouped to the left
pub data LeftGrouped (op : Token → Option Op) (Operand : List Token → Expr → Type 0) : List Token → Expr → Type 0 where
  one : (tokens : List Token) (a : Expr) → Operand tokens a → LeftGrouped op Operand tokens a
  more : (tokens : List Token) (a : Expr) → LeftGrouped op Operand tokens a
      → (token : Token) (operator : Op) → op token ≡ Some operator → (behind : List Token) (b : Expr) → Operand behind b
      → LeftGrouped op Operand (tokens ++ token ∷ behind) (expr.Two operator a b)

-- an operand, or two with an operator between them
pub data Compared (op : Token → Option Op) (Operand : List Token → Expr → Type 0) : List Token → Expr → Type 0 where
  single : (tokens : List Token) (a : Expr) → Operand tokens a → Compared op Operand tokens a
  pair : (tokens : List Token) (a : Expr) → Operand tokens a
      → (token : Token) (operator : Op) → op token ≡ Some operator → (behind : List Token) (b : Expr) → Operand behind b
      → Compared op Operand (tokens ++ token ∷ behind) (expr.Two operator a b)

-- a prefix before what one rule writes, or what another writes with no prefix
pub data Prefixed {X : Type 0} (is : Token → Bool) (make : X → X) (Behind Plain : List Token → X → Type 0) : List Token → X → Type 0 where
  plain : (tokens : List Token) (a : X) → Plain tokens a → Prefixed is make Behind Plain tokens a
  prefixed_by : (token : Token) (tokens : List Token) (a : X) → is token ≡ true → Behind tokens a → Prefixed is make Behind Plain (token ∷ tokens) (make a)

-- marks, and what a rule writes between them
abbrev pub Sequence : (List Token → Expr → Type 0) → List Part → List Token → List Expr → Type 0
Sequence Inner [] tokens trees = (tokens ≡ []) × (trees ≡ [])
Sequence Inner (Sign mark ∷ parts) tokens trees =
    (behind : List Token) × (tokens ≡ token_of_mark mark ∷ behind) × Sequence Inner parts behind trees
Sequence Inner (Inside ∷ parts) tokens trees =
    (front : List Token) × (behind : List Token) × (first : Expr) × (others : List Expr)
    × (tokens ≡ front ++ behind) × (trees ≡ first ∷ others) × Inner front first × Sequence Inner parts behind others

-- a number, a name, or a form
pub data IsPrim (scope : Scope) (Inner : List Token → Expr → Type 0) : List Token → Expr → Type 0 where
  leaf : (token : Token) (a : Expr) → leaf_of scope token ≡ Some a → IsPrim scope Inner (token ∷ []) a
  within : (token : Token) (form : Form) → form_of_token token ≡ Some form
      → (tokens : List Token) (trees : List Expr) → Sequence Inner (parts_of_form form) tokens trees
      → IsPrim scope Inner (token ∷ tokens) (tree_of form trees)

-- the rules for what brackets and prefixes enclose
pub record Enclosed : Type 1 where
  pub expr : List Token → Expr → Type 0
  pub inv : List Token → Expr → Type 0
  pub unary : List Token → Expr → Type 0

-- the rules of one depth, over those for what is enclosed there
abbrev pub prim_rule : Scope → Enclosed → Rule Expr
prim_rule scope inner = IsPrim scope inner.expr

abbrev pub unary_rule : Scope → Enclosed → Rule Expr
unary_rule scope inner = Prefixed is_minus expr.Neg inner.unary (prim_rule scope inner)

abbrev pub product_rule : Scope → Enclosed → Rule Expr
product_rule scope inner = LeftGrouped product_op (unary_rule scope inner)

abbrev pub sum_rule : Scope → Enclosed → Rule Expr
sum_rule scope inner = LeftGrouped sum_op (product_rule scope inner)

abbrev pub comparison_rule : Scope → Enclosed → Rule Expr
comparison_rule scope inner = Compared comparison_op (sum_rule scope inner)

abbrev pub inv_rule : Scope → Enclosed → Rule Expr
inv_rule scope inner = Prefixed is_not expr.Not inner.inv (comparison_rule scope inner)

abbrev pub conj_rule : Scope → Enclosed → Rule Expr
conj_rule scope inner = LeftGrouped and_op (inv_rule scope inner)

abbrev pub expr_rule : Scope → Enclosed → Rule Expr
expr_rule scope inner = LeftGrouped or_op (conj_rule scope inner)

-- what may be enclosed where at most this many brackets and prefixes may yet enclose a token
abbrev pub enclosed_by : Scope → ℕ → Enclosed
enclosed_by scope zero = record { expr = λ tokens a. ⊥; inv = λ tokens a. ⊥; unary = λ tokens a. ⊥ }
enclosed_by scope (suc n) = record {
  expr = expr_rule scope (enclosed_by scope n);
  inv = inv_rule scope (enclosed_by scope n);
  unary = unary_rule scope (enclosed_by scope n);
}

-- the tokens write this expression over the names in scope
abbrev pub IsExpr : Scope → List Token → Expr → Type 0
IsExpr scope = expr_rule scope (enclosed_by scope 64)
