-- An expression that fine tokens write is over the sensors, cells and lets in scope.
use Rattle.std.proofs.Common.{◌≡◌, ℕ, ◌≤◌, pos, true, Option, Some, None, List, [], ◌∷◌, length, refl, subst, arith}
use Rattle.std.specs.Prelude.{negsuc, int_le}
use Rattle.std.proofs.lemmas.Int.{ints}
use Rattle.rcp_model.specs.declared.expr.Expr.{Expr}
use Rattle.rcp_model.specs.declared.expr.Expr.TheVariants as expr
use Rattle.rcp_model.specs.Plan.{is_over}
use Rattle.rcp_model.proofs.ExprLaws.{number_over, sensor_over, cell_over, let_over, neg_over, not_over, abs_over, two_over, clamp_over, if_over}
use Rattle.task_lang.specs.declared.token.Token.{Token}
use Rattle.task_lang.specs.declared.token.Token.TheVariants as token
use Rattle.task_lang.specs.Words.{Scope, first_of, named_by, leaf_of}
use Rattle.rcp_base.specs.Answers.{place_in}
use Rattle.task_lang.specs.Rules.{enclosed_by, expr_rule}
use Rattle.task_lang.proofs.NamingLemmas.{place_within}
use Rattle.task_lang.proofs.TokenSizes.{IsFine, AllFine}
use Rattle.task_lang.proofs.TreeLemmas.{TreesKeep, AllAre, fine_tree_holds}

-- no number below 0
abbrev IsNatural : Token → Type 0
IsNatural (token.Number n) = int_le (pos 0) n ≡ true
IsNatural _ = Unit {0}

fine_natural : (first : Token) → IsFine first → IsNatural first
fine_natural (token.Number (pos n)) fine = grind (arith, ints)
fine_natural (token.Number (negsuc n)) fine = absurd fine
fine_natural _ fine = tt

all_natural : (tokens : List Token) → AllFine tokens → AllAre IsNatural tokens
all_natural [] fine = tt
all_natural (first ∷ tokens) fine = (fine_natural first fine.0, all_natural tokens fine.1)

module _ (scope : Scope) (most : ℕ) (enough : length scope.lets ≤ most) where
  abbrev IsInScope : Expr → Type 0
  IsInScope a = is_over (length scope.sensors) (length scope.cells) most a ≡ true

  name_over : (name : List ℕ) → IsInScope (named_by scope name)
  name_over name = by_place (place_in scope.sensors name) (place_in scope.cells name) (place_in scope.lets name) refl refl refl
    where
      by_place : (sensor cell before : Option ℕ) → place_in scope.sensors name ≡ sensor → place_in scope.cells name ≡ cell → place_in scope.lets name ≡ before
          → IsInScope (first_of sensor cell before)
      by_place (Some i) cell before is _ _ = sensor_over _ _ most i (place_within scope.sensors name i is)
      by_place None (Some i) before _ is _ = cell_over _ _ most i (place_within scope.cells name i is)
      by_place None None (Some i) _ _ is = let_over _ _ most i (omega (arith, place_within scope.lets name i is))
      by_place None None None _ _ _ = number_over _ _ most (pos 0) refl

  leaf_over : (first : Token) (a : Expr) → IsNatural first → leaf_of scope first ≡ Some a → IsInScope a
  leaf_over (token.Number n) a natural is =
      let same : expr.Number n ≡ a = cc in
      subst IsInScope same (number_over _ _ most n natural)
  leaf_over (token.Word name) a natural is =
      let same : named_by scope name ≡ a = cc in
      subst IsInScope same (name_over name)
  leaf_over _ a natural is = cc

  trees_over : TreesKeep IsInScope
  trees_over = record {
    neg = neg_over _ _ most;
    denied = not_over _ _ most;
    abs = abs_over _ _ most;
    two = two_over _ _ most;
    clamp = clamp_over _ _ most;
    choice = if_over _ _ most;
  }

  -- also where there are more lets
  pub expressions_over : (n : ℕ) (tokens : List Token) (a : Expr) → AllFine tokens → expr_rule scope (enclosed_by scope n) tokens a
      → is_over (length scope.sensors) (length scope.cells) most a ≡ true
  expressions_over n tokens a fine derived =
      fine_tree_holds IsNatural IsInScope trees_over scope leaf_over n tokens a (all_natural tokens fine) derived
