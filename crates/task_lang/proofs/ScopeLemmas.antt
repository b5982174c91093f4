-- Whether tokens are in the grammar, and where they go wrong, does not hang on the names in scope.
use Rattle.std.proofs.Common.{◌≡◌, ℕ, zero, suc, ◌+◌, List, [], ◌∷◌, ◌++◌, take, Some, Option, Bool, refl}
use Rattle.rcp_model.specs.declared.expr.Expr.{Expr}
use Rattle.rcp_model.specs.declared.expr.Expr.TheVariants as expr
use Rattle.rcp_model.specs.declared.expr.Op.{Op}
use Rattle.task_lang.specs.declared.token.Token.{Token}
use Rattle.task_lang.specs.declared.token.Token.TheVariants as token
use Rattle.task_lang.specs.declared.token.Mark.{Mark}
use Rattle.task_lang.specs.declared.token.Mark.TheVariants as mark
use Rattle.task_lang.specs.Words.{Scope, leaf_of, named_by, or_op, and_op, comparison_op, sum_op, product_op, is_minus, is_not, is_let}
use Rattle.task_lang.specs.Forms.{Part, Sign, Inside, parts_of_form, tree_of}
use Rattle.task_lang.specs.Rules.{LeftGrouped, one, more, Compared, single, pair, Prefixed, plain, prefixed_by, Sequence, IsPrim, leaf, within, Enclosed, enclosed_by, prim_rule, unary_rule, product_rule, sum_rule, comparison_rule, inv_rule, conj_rule, expr_rule}
use Rattle.task_lang.specs.Faults.{Begins, IsFaultAt}
use Rattle.task_lang.specs.Statements.{Statement, Let, Set, IsNamed, named, IsStatement, Many, last, next, scope_of, lets_behind, statements_rule}
use Rattle.task_lang.specs.Readings.{NamesMoveNoExpressionFault, NamesMoveNoBodyFault}

-- each list that one rule writes something with, another does too
abbrev IsCoveredBy : {X : Type 0} → (List Token → X → Type 0) → (List Token → X → Type 0) → Type 0
IsCoveredBy {X} Less More = (tokens : List Token) (a : X) → Less tokens a → (b : X) × More tokens b

grouped_covered : (op : Token → Option Op) (Less More : List Token → Expr → Type 0) → IsCoveredBy Less More → IsCoveredBy (LeftGrouped op Less) (LeftGrouped op More)
grouped_covered op Less More covered tokens a (one list b derived) = let other = covered list b derived in (other.0, one list other.0 other.1)
grouped_covered op Less More covered tokens a (more list b front token operator is behind c derived) =
    let left = grouped_covered op Less More covered list b front in
    let right = covered behind c derived in
    (expr.Two operator left.0 right.0, more list left.0 left.1 token operator is behind right.0 right.1)

compared_covered : (op : Token → Option Op) (Less More : List Token → Expr → Type 0) → IsCoveredBy Less More → IsCoveredBy (Compared op Less) (Compared op More)
compared_covered op Less More covered tokens a (single list b derived) = let other = covered list b derived in (other.0, single list other.0 other.1)
compared_covered op Less More covered tokens a (pair list b front token operator is behind c derived) =
    let left = covered list b front in
    let right = covered behind c derived in
    (expr.Two operator left.0 right.0, pair list left.0 left.1 token operator is behind right.0 right.1)

prefixed_covered : {X : Type 0} (is : Token → Bool) (make : X → X) (Behind Plain OtherBehind OtherPlain : List Token → X → Type 0) → IsCoveredBy Behind OtherBehind → IsCoveredBy Plain OtherPlain
    → IsCoveredBy (Prefixed is make Behind Plain) (Prefixed is make OtherBehind OtherPlain)
prefixed_covered is make Behind Plain OtherBehind OtherPlain behind_covered plain_covered tokens a (plain list b derived) =
    let other = plain_covered list b derived in (other.0, plain list other.0 other.1)
prefixed_covered is make Behind Plain OtherBehind OtherPlain behind_covered plain_covered tokens a (prefixed_by token list b same derived) =
    let other = behind_covered list b derived in (make other.0, prefixed_by token list other.0 same other.1)

sequence_covered : (Less More : List Token → Expr → Type 0) → IsCoveredBy Less More → (parts : List Part) → IsCoveredBy (Sequence Less parts) (Sequence More parts)
sequence_covered Less More covered [] tokens trees derived = ([], (derived.0, refl))
sequence_covered Less More covered (Sign mark ∷ parts) tokens trees derived =
    let others = sequence_covered Less More covered parts derived.0 trees derived.2 in
    (others.0, (derived.0, derived.1, others.1))
sequence_covered Less More covered (Inside ∷ parts) tokens trees derived =
    let first = covered derived.0 derived.2 derived.6 in
    let others = sequence_covered Less More covered parts derived.1 derived.3 derived.7 in
    (first.0 ∷ others.0, (derived.0, derived.1, first.0, others.0, derived.4, refl, first.1, others.1))

-- a name is a leaf in each scope
leaf_covered : (scope other : Scope) (first : Token) (a : Expr) → leaf_of scope first ≡ Some a → (b : Expr) × (leaf_of other first ≡ Some b)
leaf_covered scope other (token.Number n) a is = (expr.Number n, refl)
leaf_covered scope other (token.Word name) a is = (named_by other name, refl)
leaf_covered scope other _ a is = (a, cc)

prim_covered : (scope other : Scope) (Less More : List Token → Expr → Type 0) → IsCoveredBy Less More → IsCoveredBy (IsPrim scope Less) (IsPrim other More)
prim_covered scope other Less More covered tokens a (leaf token b is) = let same = leaf_covered scope other token b is in (same.0, leaf token same.0 same.1)
prim_covered scope other Less More covered tokens a (within token form is list trees derived) =
    let others = sequence_covered Less More covered (parts_of_form form) list trees derived in
    (tree_of form others.0, within token form is list others.0 others.1)

record AreCoveredBy (less more : Enclosed) : Type 0 where
  expr : IsCoveredBy less.expr more.expr
  inv : IsCoveredBy less.inv more.inv
  unary : IsCoveredBy less.unary more.unary

module _ (scope other : Scope) (less more : Enclosed) (covered : AreCoveredBy less more) where
  unary_covered : IsCoveredBy (unary_rule scope less) (unary_rule other more)
  unary_covered =
      prefixed_covered is_minus expr.Neg less.unary (prim_rule scope less) more.unary (prim_rule other more) covered.unary
      (prim_covered scope other less.expr more.expr covered.expr)

  comparison_covered : IsCoveredBy (comparison_rule scope less) (comparison_rule other more)
  comparison_covered =
      compared_covered comparison_op (sum_rule scope less) (sum_rule other more)
      (grouped_covered sum_op (product_rule scope less) (product_rule other more)
      (grouped_covered product_op (unary_rule scope less) (unary_rule other more) unary_covered))

  inv_covered : IsCoveredBy (inv_rule scope less) (inv_rule other more)
  inv_covered =
      prefixed_covered is_not expr.Not less.inv (comparison_rule scope less) more.inv (comparison_rule other more) covered.inv comparison_covered

  expr_covered : IsCoveredBy (expr_rule scope less) (expr_rule other more)
  expr_covered =
      grouped_covered or_op (conj_rule scope less) (conj_rule other more) (grouped_covered and_op (inv_rule scope less) (inv_rule other more) inv_covered)

enclosed_covered : (scope other : Scope) (n : ℕ) → AreCoveredBy (enclosed_by scope n) (enclosed_by other n)
enclosed_covered scope other zero =
    record { expr = λ tokens a derived. absurd derived; inv = λ tokens a derived. absurd derived; unary = λ tokens a derived. absurd derived }
enclosed_covered scope other (suc n) =
    let covered : AreCoveredBy (enclosed_by scope n) (enclosed_by other n) = enclosed_covered scope other n in
    record {
      expr = expr_covered scope other (enclosed_by scope n) (enclosed_by other n) covered;
      inv = inv_covered scope other (enclosed_by scope n) (enclosed_by other n) covered;
      unary = unary_covered scope other (enclosed_by scope n) (enclosed_by other n) covered;
    }

expressions_covered : (scope other : Scope) (n : ℕ) → IsCoveredBy (expr_rule scope (enclosed_by scope n)) (expr_rule other (enclosed_by other n))
expressions_covered scope other n = expr_covered scope other (enclosed_by scope n) (enclosed_by other n) (enclosed_covered scope other n)

named_covered : (sign : Mark) (make : List ℕ → Expr → Statement) (Less More : List Token → Expr → Type 0) → IsCoveredBy Less More → IsCoveredBy (IsNamed sign make Less) (IsNamed sign make More)
named_covered sign make Less More covered tokens a (named name list value derived) =
    let value_derived = derived.2 in
    let other = covered value_derived.0 value_derived.2 value_derived.6 in (
      make name other.0,
      named name list other.0
          (derived.0, derived.1, (value_derived.0, value_derived.1, other.0, [], value_derived.4, refl, other.1, (value_derived.7.0, value_derived.7.1, (value_derived.7.2.0, refl)))),
    )

statement_covered : (Less More : List Token → Expr → Type 0) → IsCoveredBy Less More → IsCoveredBy (IsStatement Less) (IsStatement More)
statement_covered Less More covered =
    prefixed_covered is_let (λ statement. statement) (IsNamed mark.Equal Let Less) (IsNamed mark.Assign Set Less) (IsNamed mark.Equal Let More) (IsNamed mark.Assign Set More)
    (named_covered mark.Equal Let Less More covered) (named_covered mark.Assign Set Less More covered)

many_covered : {Left X : Type 0} (One Other : Left → List Token → X → Type 0) (leave : Left → X → Left)
    → ((left other : Left) → IsCoveredBy (One left) (Other other)) → (left other : Left) → IsCoveredBy (Many One leave left) (Many Other leave other)
many_covered One Other leave covered left other tokens xs (last same list x derived) =
    let found = covered same other list x derived in (found.0 ∷ [], last other list found.0 found.1)
many_covered One Other leave covered left other tokens xs (next same list x derived behind others many) =
    let found = covered same other list x derived in
    let rest = many_covered One Other leave covered (leave same x) (leave other found.0) behind others many in
    (found.0 ∷ rest.0, next other list found.0 found.1 behind rest.0 rest.1)

statements_covered : (n : ℕ) (sensors cells other_sensors other_cells : List (List ℕ))
    → IsCoveredBy (statements_rule n sensors cells) (statements_rule n other_sensors other_cells)
statements_covered n sensors cells other_sensors other_cells =
    many_covered (λ lets. let scope = scope_of sensors cells lets in IsStatement (expr_rule scope (enclosed_by scope n)))
    (λ lets. let scope = scope_of other_sensors other_cells lets in IsStatement (expr_rule scope (enclosed_by scope n))) lets_behind
    (λ lets other_lets.
    let scope = scope_of sensors cells lets in
    let other = scope_of other_sensors other_cells other_lets in
    statement_covered (expr_rule scope (enclosed_by scope n)) (expr_rule other (enclosed_by other n)) (expressions_covered scope other n))
    [] []

begins_covered : {X : Type 0} (Less More : List Token → X → Type 0) → IsCoveredBy Less More → (tokens : List Token) → Begins Less tokens → Begins More tokens
begins_covered Less More covered tokens begins = let other = covered (tokens ++ begins.0) begins.1 begins.2 in (begins.0, other.0, other.1)

-- rules that cover each other have the same faults
fault_covered : {X : Type 0} (Less More : List Token → X → Type 0) → IsCoveredBy Less More → IsCoveredBy More Less
    → (tokens : List Token) (n : ℕ) → IsFaultAt Less tokens n → IsFaultAt More tokens n
fault_covered Less More covered covers tokens n fault =
    record {
      within = fault.within;
      before = begins_covered Less More covered (take n tokens) fault.before;
      there = λ less begins. fault.there less (begins_covered More Less covers (take (n + 1) tokens) begins);
      unread = λ x derived. let other = covers tokens x derived in fault.unread other.0 other.1;
    }

pub names_move_no_expression_fault : NamesMoveNoExpressionFault
names_move_no_expression_fault scope other =
    fault_covered (expr_rule scope (enclosed_by scope 64)) (expr_rule other (enclosed_by other 64)) (expressions_covered scope other 64) (expressions_covered other scope 64)

pub names_move_no_body_fault : NamesMoveNoBodyFault
names_move_no_body_fault sensors cells other_sensors other_cells =
    fault_covered (statements_rule 64 sensors cells) (statements_rule 64 other_sensors other_cells)
    (statements_covered 64 sensors cells other_sensors other_cells) (statements_covered 64 other_sensors other_cells sensors cells)
