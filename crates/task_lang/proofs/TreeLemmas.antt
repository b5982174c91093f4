-- What holds of each leaf and is kept by each kind of tree holds of each tree that the grammar has, also of fine tokens alone.
use Rattle.std.proofs.Common.{◌≡◌, ℕ, zero, suc, List, [], ◌∷◌, ◌++◌, Option, Some, sym, ap, ◌∙◌, subst}
use Rattle.rcp_model.specs.declared.expr.Expr.{Expr}
use Rattle.rcp_model.specs.declared.expr.Expr.TheVariants as expr
use Rattle.rcp_model.specs.declared.expr.Op.{Op}
use Rattle.rcp_model.specs.declared.expr.Op.TheVariants as op
use Rattle.task_lang.specs.declared.token.Token.{Token}
use Rattle.task_lang.specs.declared.token.Form.{Form}
use Rattle.task_lang.specs.declared.token.Form.TheVariants as form
use Rattle.task_lang.specs.Words.{Scope, leaf_of, or_op, and_op, sum_op, product_op}
use Rattle.task_lang.specs.Forms.{Part, Sign, Inside, parts_of_form, tree_of}
use Rattle.task_lang.specs.Rules.{LeftGrouped, one, more, single, pair, plain, prefixed_by, Sequence, leaf, within, Enclosed, enclosed_by, prim_rule, unary_rule, product_rule, sum_rule, comparison_rule, inv_rule, conj_rule, expr_rule}

-- it holds of each tree of a sequence
abbrev pub HoldsInside : (Expr → Type 0) → List Part → List Expr → Type 0
HoldsInside Good [] trees = Unit {0}
HoldsInside Good (Sign mark ∷ parts) trees = HoldsInside Good parts trees
HoldsInside Good (Inside ∷ parts) trees =
    (first : Expr) × (others : List Expr) × (trees ≡ first ∷ others) × Good first × HoldsInside Good parts others

pub sequence_holds : (Inner : List Token → Expr → Type 0) (Good : Expr → Type 0) → ((tokens : List Token) (a : Expr) → Inner tokens a → Good a)
    → (parts : List Part) (tokens : List Token) (trees : List Expr) → Sequence Inner parts tokens trees → HoldsInside Good parts trees
sequence_holds Inner Good each [] tokens trees derived = tt
sequence_holds Inner Good each (Sign mark ∷ parts) tokens trees derived = sequence_holds Inner Good each parts derived.0 trees derived.2
sequence_holds Inner Good each (Inside ∷ parts) tokens trees derived = (
  derived.2,
  derived.3,
  derived.5,
  each derived.0 derived.2 derived.6,
  sequence_holds Inner Good each parts derived.1 derived.3 derived.7,
)

-- where one thing holds inside a form, another holds of its tree
pub record FormsKeep (Inner Good : Expr → Type 0) : Type 0 where
  pub brackets : (a : Expr) → Inner a → Good a
  pub abs : (a : Expr) → Inner a → Good (expr.Abs a)
  pub min : (a b : Expr) → Inner a → Inner b → Good (expr.Two op.Min a b)
  pub max : (a b : Expr) → Inner a → Inner b → Good (expr.Two op.Max a b)
  pub clamp : (a low high : Expr) → Inner a → Inner low → Inner high → Good (expr.Clamp a low high)
  pub choice : (test a b : Expr) → Inner test → Inner a → Inner b → Good (expr.If test a b)

module _ (Inner Good : Expr → Type 0) (keep : FormsKeep Inner Good) where
  pub form_holds : (form : Form) (trees : List Expr) → HoldsInside Inner (parts_of_form form) trees → Good (tree_of form trees)
  form_holds form.Brackets trees holds =
      subst (λ list. Good (tree_of form.Brackets list)) (sym holds.2) (keep.brackets holds.0 holds.3)
  form_holds form.Abs trees holds =
      subst (λ list. Good (tree_of form.Abs list)) (sym holds.2) (keep.abs holds.0 holds.3)
  form_holds form.Min trees holds =
      let second = holds.4 in
      let all : trees ≡ holds.0 ∷ second.0 ∷ second.1 = holds.2 ∙ ap (λ others. holds.0 ∷ others) second.2 in
      subst (λ list. Good (tree_of form.Min list)) (sym all) (keep.min holds.0 second.0 holds.3 second.3)
  form_holds form.Max trees holds =
      let second = holds.4 in
      let all : trees ≡ holds.0 ∷ second.0 ∷ second.1 = holds.2 ∙ ap (λ others. holds.0 ∷ others) second.2 in
      subst (λ list. Good (tree_of form.Max list)) (sym all) (keep.max holds.0 second.0 holds.3 second.3)
  form_holds form.Clamp trees holds =
      let second = holds.4 in
      let third = second.4 in
      let all : trees ≡ holds.0 ∷ second.0 ∷ third.0 ∷ third.1 =
      holds.2 ∙ (ap (λ others. holds.0 ∷ others) second.2 ∙ ap (λ others. holds.0 ∷ second.0 ∷ others) third.2) in
      subst (λ list. Good (tree_of form.Clamp list)) (sym all) (keep.clamp holds.0 second.0 third.0 holds.3 second.3 third.3)
  form_holds form.If trees holds =
      let second = holds.4 in
      let third = second.4 in
      let all : trees ≡ holds.0 ∷ second.0 ∷ third.0 ∷ third.1 =
      holds.2 ∙ (ap (λ others. holds.0 ∷ others) second.2 ∙ ap (λ others. holds.0 ∷ second.0 ∷ others) third.2) in
      subst (λ list. Good (tree_of form.If list)) (sym all) (keep.choice holds.0 second.0 third.0 holds.3 second.3 third.3)

-- each kind of tree keeps it
pub record TreesKeep (Good : Expr → Type 0) : Type 0 where
  pub neg : (a : Expr) → Good a → Good (expr.Neg a)
  pub denied : (a : Expr) → Good a → Good (expr.Not a)
  pub abs : (a : Expr) → Good a → Good (expr.Abs a)
  pub two : (operator : Op) (a b : Expr) → Good a → Good b → Good (expr.Two operator a b)
  pub clamp : (a low high : Expr) → Good a → Good low → Good high → Good (expr.Clamp a low high)
  pub choice : (test a b : Expr) → Good test → Good a → Good b → Good (expr.If test a b)

-- each token is so
abbrev pub AllAre : (Token → Type 0) → List Token → Type 0
AllAre Fine [] = Unit {0}
AllAre Fine (first ∷ others) = Fine first × AllAre Fine others

module _ (Fine : Token → Type 0) where
  front_are : (some others : List Token) → AllAre Fine (some ++ others) → AllAre Fine some
  front_are [] others fine = tt
  front_are (first ∷ some) others fine = (fine.0, front_are some others fine.1)

  back_are : (some others : List Token) → AllAre Fine (some ++ others) → AllAre Fine others
  back_are [] others fine = fine
  back_are (first ∷ some) others fine = back_are some others fine.1

  -- so are those that are token_in inside a sequence
  sequence_cut : (Inner : List Token → Expr → Type 0) (parts : List Part) (tokens : List Token) (trees : List Expr) → AllAre Fine tokens → Sequence Inner parts tokens trees
      → Sequence (λ tokens a. AllAre Fine tokens × Inner tokens a) parts tokens trees
  sequence_cut Inner [] tokens trees fine derived = derived
  sequence_cut Inner (Sign mark ∷ parts) tokens trees fine derived =
      (derived.0, derived.1, sequence_cut Inner parts derived.0 trees (subst (AllAre Fine) derived.1 fine).1 derived.2)
  sequence_cut Inner (Inside ∷ parts) tokens trees fine derived =
      let all : AllAre Fine (derived.0 ++ derived.1) = subst (AllAre Fine) derived.4 fine in (
        derived.0,
        derived.1,
        derived.2,
        derived.3,
        derived.4,
        derived.5,
        (front_are derived.0 derived.1 all, derived.6),
        sequence_cut Inner parts derived.1 derived.3 (back_are derived.0 derived.1 all) derived.7,
      )

-- it holds of each tree that a rule writes with such tokens
abbrev Holds : (Token → Type 0) → (Expr → Type 0) → (List Token → Expr → Type 0) → Type 0
Holds Fine Good Writes = (tokens : List Token) (a : Expr) → AllAre Fine tokens → Writes tokens a → Good a

record InsideHolds (Fine : Token → Type 0) (Good : Expr → Type 0) (inner : Enclosed) : Type 0 where
  expr : Holds Fine Good inner.expr
  inv : Holds Fine Good inner.inv
  unary : Holds Fine Good inner.unary

module _ (Fine : Token → Type 0) (Good : Expr → Type 0) (keep : TreesKeep Good) where
  chain_holds : (op : Token → Option Op) (Operand : List Token → Expr → Type 0) → Holds Fine Good Operand → Holds Fine Good (LeftGrouped op Operand)
  chain_holds op Operand each tokens a fine (one list b derived) = each list b fine derived
  chain_holds op Operand each tokens a fine (more list b front token operator is behind c derived) =
      keep.two operator b c (chain_holds op Operand each list b (front_are Fine list (token ∷ behind) fine) front)
      (each behind c (back_are Fine list (token ∷ behind) fine).1 derived)

  forms_keep : FormsKeep Good Good
  forms_keep = record {
    brackets = λ a good. good;
    abs = keep.abs;
    min = keep.two op.Min;
    max = keep.two op.Max;
    clamp = keep.clamp;
    choice = keep.choice;
  }

module _ (Fine : Token → Type 0) (Good : Expr → Type 0) (keep : TreesKeep Good) (scope : Scope) (leaves : (first : Token) (a : Expr) → Fine first → leaf_of scope first ≡ Some a → Good a)
    (inner : Enclosed) (inside : InsideHolds Fine Good inner) where
  prim_holds : Holds Fine Good (prim_rule scope inner)
  prim_holds tokens a fine (leaf token b is) = leaves token b fine.0 is
  prim_holds tokens a fine (within token form is list trees derived) =
      form_holds Good Good (forms_keep Fine Good keep) form trees
      (sequence_holds (λ tokens a. AllAre Fine tokens × inner.expr tokens a) Good (λ tokens a both. inside.expr tokens a both.0 both.1) (parts_of_form form) list trees
      (sequence_cut Fine inner.expr (parts_of_form form) list trees fine.1 derived))

  unary_holds : Holds Fine Good (unary_rule scope inner)
  unary_holds tokens a fine (plain list b derived) = prim_holds list b fine derived
  unary_holds tokens a fine (prefixed_by token list b is derived) = keep.neg b (inside.unary list b fine.1 derived)

  sum_holds : Holds Fine Good (sum_rule scope inner)
  sum_holds =
      chain_holds Fine Good keep sum_op (product_rule scope inner) (chain_holds Fine Good keep product_op (unary_rule scope inner) unary_holds)

  comparison_holds : Holds Fine Good (comparison_rule scope inner)
  comparison_holds tokens a fine (single list b derived) = sum_holds list b fine derived
  comparison_holds tokens a fine (pair list b front token operator is behind c derived) =
      keep.two operator b c (sum_holds list b (front_are Fine list (token ∷ behind) fine) front)
      (sum_holds behind c (back_are Fine list (token ∷ behind) fine).1 derived)

  inv_holds : Holds Fine Good (inv_rule scope inner)
  inv_holds tokens a fine (plain list b derived) = comparison_holds list b fine derived
  inv_holds tokens a fine (prefixed_by token list b is derived) = keep.denied b (inside.inv list b fine.1 derived)

  expr_holds : Holds Fine Good (expr_rule scope inner)
  expr_holds = chain_holds Fine Good keep or_op (conj_rule scope inner) (chain_holds Fine Good keep and_op (inv_rule scope inner) inv_holds)

module _ (Fine : Token → Type 0) (Good : Expr → Type 0) (keep : TreesKeep Good) (scope : Scope) (leaves : (first : Token) (a : Expr) → Fine first → leaf_of scope first ≡ Some a → Good a) where
  all_hold : (n : ℕ) → InsideHolds Fine Good (enclosed_by scope n)
  all_hold zero =
      record { expr = λ tokens a fine derived. absurd derived; inv = λ tokens a fine derived. absurd derived; unary = λ tokens a fine derived. absurd derived }
  all_hold (suc n) =
      let inner = enclosed_by scope n in
      let inside : InsideHolds Fine Good inner = all_hold n in
      record {
        expr = expr_holds Fine Good keep scope leaves inner inside;
        inv = inv_holds Fine Good keep scope leaves inner inside;
        unary = unary_holds Fine Good keep scope leaves inner inside;
      }

  -- it holds of each tree that such tokens write
  pub fine_tree_holds : (n : ℕ) (tokens : List Token) (a : Expr) → AllAre Fine tokens → expr_rule scope (enclosed_by scope n) tokens a → Good a
  fine_tree_holds n = expr_holds Fine Good keep scope leaves (enclosed_by scope n) (all_hold n)

-- any tokens are any tokens
any_are : (tokens : List Token) → AllAre (λ first. Unit {0}) tokens
any_are [] = tt
any_are (first ∷ others) = (tt, any_are others)

-- it holds of each tree that tokens write
pub tree_holds : (Good : Expr → Type 0) → TreesKeep Good → (scope : Scope) → ((first : Token) (a : Expr) → leaf_of scope first ≡ Some a → Good a)
    → (n : ℕ) (tokens : List Token) (a : Expr) → expr_rule scope (enclosed_by scope n) tokens a → Good a
tree_holds Good keep scope leaves n tokens a derived =
    fine_tree_holds (λ first. Unit {0}) Good keep scope (λ first a fine is. leaves first a is) n tokens a (any_are tokens) derived
