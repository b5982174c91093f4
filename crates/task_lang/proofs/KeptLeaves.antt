-- A leaf stays the same where it is printed and read in scopes with more lets.
use Rattle.std.proofs.Common.{◌≡◌, ℕ, List, ◌++◌, Bool, true, false, Option, Some, None, refl, ap, ◌∙◌, subst}
use Rattle.std.specs.Prelude.{pos, is_some, ◌||◌}
use Rattle.rcp_model.specs.declared.expr.Expr.{Expr}
use Rattle.rcp_model.specs.declared.expr.Expr.TheVariants as expr
use Rattle.task_lang.specs.declared.token.Token.{Token}
use Rattle.task_lang.specs.declared.token.Token.TheVariants as token
use Rattle.task_lang.specs.Words.{Scope, named_by, leaf_of}
use Rattle.rcp_base.specs.Answers.{place_in}
use Rattle.task_lang.specs.NameFaults.{has_name, is_in_scope}
use Rattle.task_lang.proofs.PrintedTokens.{leaf_token, printed_tokens}
use Rattle.task_lang.proofs.PrintingSteps.{tokens-number}
use Rattle.task_lang.proofs.NamingLemmas.{GoesOn, place_in_front, IsNamed, unknown, known, name_printed}

-- may stand within an expression over these names
abbrev pub stands_within : Scope → Token → Bool
stands_within scope (token.Word name) = is_in_scope scope name
stands_within scope token.Let = false
stands_within scope token.Assign = false
stands_within scope token.Equal = false
stands_within scope token.Semicolon = false
stands_within scope _ = true

-- a leaf that is printed in one scope is the same leaf in another, where its name is in scope
pub record IsKeptLeaf (shown target : Scope) (a : Expr) : Type 0 where
  pub first : Token
  pub printed : printed_tokens shown a ≡ leaf_token first
  pub stands : leaf_of target first ≡ Some a
  pub fine : stands_within target first ≡ true

-- more lets hide no name
in_scope_still : (scope whole : Scope) → GoesOn scope whole → (name : List ℕ) → is_in_scope scope name ≡ true → is_in_scope whole name ≡ true
in_scope_still scope whole on name is =
    ap (λ names. has_name names name || has_name whole.cells name || has_name whole.lets name) on.sensors
    ∙ (ap (λ names. has_name scope.sensors name || has_name names name || has_name whole.lets name) on.cells
    ∙ (ap (λ names. has_name scope.sensors name || has_name scope.cells name || has_name names name) on.lets
    ∙ by_place (has_name scope.sensors name) (has_name scope.cells name) (place_in scope.lets name) refl is))
  where
    by_place : (sensor cell : Bool) (found : Option ℕ) → place_in scope.lets name ≡ found → (sensor || cell || is_some found) ≡ true
        → (sensor || cell || has_name (scope.lets ++ on.later) name) ≡ true
    by_place true cell found at some = refl
    by_place false true found at some = refl
    by_place false false (Some i) at some = ap is_some (place_in_front scope.lets on.later name i at)
    by_place false false None at some = cc

module _ (scope shown target : Scope) (printed_on : GoesOn scope shown) (read_on : GoesOn scope target) where
  name_kept : (name : List ℕ) {a : Expr} → IsNamed shown scope name a → IsNamed target scope name a → IsKeptLeaf shown target a
  name_kept name (unknown none) read = record { first = token.Number (pos 0); printed = tokens-number shown (pos 0); stands = refl; fine = refl }
  name_kept name (known a is printed tokens same) (unknown none) = cc
  name_kept name (known a is printed tokens same) (known b there again also read) =
      record { first = token.Word name; printed = tokens; stands = ap (λ tree. Some tree) read; fine = in_scope_still scope target read_on name is }

  -- more lets change no leaf, where it is printed nor where it is read
  pub leaf_kept : (first : Token) (a : Expr) → leaf_of scope first ≡ Some a → IsKeptLeaf shown target a
  leaf_kept (token.Number n) a is =
      let same : expr.Number n ≡ a = cc in
      subst (IsKeptLeaf shown target) same (record { first = token.Number n; printed = tokens-number shown n; stands = refl; fine = refl })
  leaf_kept (token.Word name) a is =
      let same : named_by scope name ≡ a = cc in
      subst (IsKeptLeaf shown target) same (name_kept name (name_printed shown scope printed_on name) (name_printed target scope read_on name))
  leaf_kept _ a is = cc
