-- The names of an expression are no targets of statements.
use Rattle.std.proofs.Common.{◌≡◌, ℕ, suc, List, [], ◌∷◌, length, Option, Some, None, Bool, true, false, refl, sym, ap, ◌∙◌, append-nil}
use Rattle.std.specs.List.{list_all}
use Rattle.task_lang.specs.declared.scan.NameFault.{NameFault}
use Rattle.task_lang.specs.declared.scan.NameFault.TheVariants.{IsUnknown, IsBadTarget}
use Rattle.task_lang.specs.declared.token.Token.{Token}
use Rattle.task_lang.specs.declared.token.Token.TheVariants as token
use Rattle.task_lang.specs.Tokens.{tokens_of}
use Rattle.task_lang.specs.Words.{Scope}
use Rattle.task_lang.specs.Statements.{scope_of}
use Rattle.task_lang.specs.NameFaults.{is_in_scope, begins_with_assign, wrong_name_from, first_wrong_name}
use Rattle.task_lang.specs.RightNames.{ExpressionsHaveNoTargets}
use Rattle.task_lang.proofs.TokensWithin.{is_inner, tokens_inner}
use Rattle.task_lang.proofs.Scanning.{seen_at, tested, operand, both, no_assign_behind}

abbrev kind_of : Option (NameFault × ℕ) → NameFault
kind_of None = IsUnknown
kind_of (Some (kind, left)) = kind

module _ (scope : Scope) (begun set : List (List ℕ)) (left : ℕ) where
  abbrev HasTarget : List Token → Type 0
  HasTarget tokens = wrong_name_from (seen_at scope begun set) tokens ≡ Some (IsBadTarget, left)

  target_behind : (first : Token) (rest : List Token) → begins_with_assign rest ≡ false → is_inner first ≡ true → HasTarget (first ∷ rest) → HasTarget rest
  target_behind (token.Word name) rest none inner found = by_case (is_in_scope scope name) refl
    where
      by_case : (b : Bool) → is_in_scope scope name ≡ b → HasTarget rest
      by_case true is =
          sym (operand scope begun set name rest none ∙ ap (λ b. tested scope begun set b IsUnknown (seen_at scope begun set) rest) is) ∙ found
      by_case false is =
          let fault : wrong_name_from (seen_at scope begun set) (token.Word name ∷ rest) ≡ Some (IsUnknown, suc (length rest)) =
          operand scope begun set name rest none ∙ ap (λ b. tested scope begun set b IsUnknown (seen_at scope begun set) rest) is in
          let same : IsUnknown ≡ IsBadTarget = ap kind_of (sym fault ∙ found) in
          cc
  target_behind token.Let rest none inner found = cc
  target_behind token.Assign rest none inner found = cc
  target_behind token.Equal rest none inner found = cc
  target_behind token.Semicolon rest none inner found = cc
  target_behind _ rest none inner found = found

  no_target : (tokens : List Token) → list_all is_inner tokens ≡ true → HasTarget tokens → ⊥
  no_target [] inner found = cc
  no_target (first ∷ tokens) inner found =
      let parts = both (is_inner first) (list_all is_inner tokens) inner in
      let behind : begins_with_assign tokens ≡ false = ap begins_with_assign (sym (append-nil tokens)) ∙ no_assign_behind tokens [] parts.1 refl in
      no_target tokens parts.1 (target_behind first tokens behind parts.0 found)

pub expressions_have_no_targets : ExpressionsHaveNoTargets
unfolding first_wrong_name
expressions_have_no_targets sensors cells text byte wrong =
    let scope = scope_of sensors cells [] in
    let tokens = tokens_of text in
    no_target scope [] [] wrong.left tokens (tokens_inner scope 64 tokens wrong.tree wrong.permitted) wrong.first
