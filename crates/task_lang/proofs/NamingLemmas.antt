-- What a name stands for is printed as that name, and stands for the same where more lets are in scope.
use Rattle.std.proofs.Common.{◌≡◌, ℕ, ◌<◌, List, [], ◌++◌, length, Option, Some, None, Bool, true, false, cond, refl, sym, ap, ◌∙◌, arith, length-append, ◌+◌}
use Rattle.std.specs.Prelude.{is_some, not, nat_lt, ◌||◌}
use Rattle.std.specs.List.{prefix_len}
use Rattle.std.proofs.lemmas.List.Folds.{prefix_len-append}
use Rattle.std.proofs.lemmas.Option.{cond_some}
use Rattle.std.proofs.lemmas.Bool.{ltb-true, lt-ltb}
use Rattle.std.specs.Str.{bytes_eq}
use Rattle.std.proofs.lemmas.List.Quantifiers.{position-Some}
use Rattle.std.proofs.lemmas.Slice.Eq.{bytes_eq-Decides}
use Rattle.rcp_model.specs.declared.expr.Expr.{Expr}
use Rattle.rcp_model.specs.declared.expr.Expr.TheVariants as expr
use Rattle.task_lang.specs.declared.token.Token.TheVariants as token
use Rattle.task_lang.specs.Words.{Scope, stand_in, first_of, named_by}
use Rattle.rcp_base.specs.Answers.{place_in}
use Rattle.task_lang.specs.NameFaults.{has_name, is_in_scope}
use Rattle.task_lang.specs.Printing.{leaf, name_at, printed}
use Rattle.task_lang.proofs.PrintedTokens.{leaf_token, printed_tokens}
use Rattle.task_lang.proofs.PrintingSteps.{printed-sensor, printed-cell, printed-let, tokens-sensor, tokens-cell, tokens-let}

-- the same sensors and cells, and lets that go on
pub record GoesOn (scope whole : Scope) : Type 0 where
  pub sensors : whole.sensors ≡ scope.sensors
  pub cells : whole.cells ≡ scope.cells
  pub later : List (List ℕ)
  pub lets : whole.lets ≡ scope.lets ++ later

-- the name at the place where a name is found
pub name_at_place : (names : List (List ℕ)) (name : List ℕ) (i : ℕ) → place_in names name ≡ Some i → name_at names i ≡ name
name_at_place names name i found =
    let at = position-Some (bytes_eq name) names i [] found in
    sym ((bytes_eq-Decides name (name_at names i)).0 at.1)

prefix_in_front : (test : List ℕ → Bool) (names later : List (List ℕ)) → prefix_len test names < length names → prefix_len test (names ++ later) ≡ prefix_len test names
prefix_in_front test names later fits = grind (arith, prefix_len-append test names later)

-- where it is found in a front of names
pub place_in_front : (names later : List (List ℕ)) (name : List ℕ) (i : ℕ) → place_in names name ≡ Some i → place_in (names ++ later) name ≡ Some i
place_in_front names later name i found =
    let test : List ℕ → Bool = λ other. not (bytes_eq name other) in
    let here = cond_some (nat_lt (prefix_len test names) (length names)) (prefix_len test names) i found in
    let fits : prefix_len test names < length names = ltb-true (prefix_len test names) (length names) here.0 in
    let same : prefix_len test (names ++ later) ≡ prefix_len test names = prefix_in_front test names later fits in
    let longer : length (names ++ later) ≡ length names + length later = length-append names later in
    let less : nat_lt (prefix_len test names) (length (names ++ later)) ≡ true = lt-ltb (prefix_len test names) (length (names ++ later)) (omega (arith, fits, longer)) in
    ap (λ n. cond (nat_lt n (length (names ++ later))) (Some n) None) same ∙ ap (λ b. cond b (Some (prefix_len test names)) None) less ∙ ap (λ n. Some n) here.1

-- the place of a name is within its list
pub place_within : (names : List (List ℕ)) (name : List ℕ) (i : ℕ) → place_in names name ≡ Some i → i < length names
place_within names name i found = (position-Some (bytes_eq name) names i [] found).0

-- what a name stands for is a stand-in, or it is printed as the name and is the same with more lets
pub data IsNamed (whole scope : Scope) (name : List ℕ) : Expr → Type 0 where
  unknown : is_in_scope scope name ≡ false → IsNamed whole scope name stand_in
  known : (a : Expr) → is_in_scope scope name ≡ true → printed whole a ≡ leaf name → printed_tokens whole a ≡ leaf_token (token.Word name) → named_by whole name ≡ a
      → IsNamed whole scope name a

pub name_printed : (whole scope : Scope) → GoesOn scope whole → (name : List ℕ) → IsNamed whole scope name (named_by scope name)
name_printed whole scope on name = by (place_in scope.sensors name) (place_in scope.cells name) (place_in scope.lets name) refl refl refl
  where
    by : (s c l : Option ℕ) → place_in scope.sensors name ≡ s → place_in scope.cells name ≡ c → place_in scope.lets name ≡ l → IsNamed whole scope name (first_of s c l)
    by (Some i) c l at_s at_c at_l =
        let there : place_in whole.sensors name ≡ Some i = ap (λ names. place_in names name) on.sensors ∙ at_s in
        let spelled : name_at whole.sensors i ≡ name = name_at_place whole.sensors name i there in
        known (expr.Sensor i) (ap (λ o. is_some o || has_name scope.cells name || has_name scope.lets name) at_s)
        (printed-sensor whole i ∙ ap leaf spelled) (tokens-sensor whole i ∙ ap (λ w. leaf_token (token.Word w)) spelled)
        (ap (λ o. first_of o (place_in whole.cells name) (place_in whole.lets name)) there)
    by None (Some i) l at_s at_c at_l =
        let none : place_in whole.sensors name ≡ None = ap (λ names. place_in names name) on.sensors ∙ at_s in
        let there : place_in whole.cells name ≡ Some i = ap (λ names. place_in names name) on.cells ∙ at_c in
        let spelled : name_at whole.cells i ≡ name = name_at_place whole.cells name i there in
        known (expr.Cell i)
        (ap (λ o. is_some o || has_name scope.cells name || has_name scope.lets name) at_s ∙ ap (λ o. is_some o || has_name scope.lets name) at_c)
        (printed-cell whole i ∙ ap leaf spelled) (tokens-cell whole i ∙ ap (λ w. leaf_token (token.Word w)) spelled)
        (ap (λ o. first_of o (place_in whole.cells name) (place_in whole.lets name)) none ∙ ap (λ o. first_of None o (place_in whole.lets name)) there)
    by None None (Some i) at_s at_c at_l =
        let no_sensor : place_in whole.sensors name ≡ None = ap (λ names. place_in names name) on.sensors ∙ at_s in
        let no_cell : place_in whole.cells name ≡ None = ap (λ names. place_in names name) on.cells ∙ at_c in
        let there : place_in whole.lets name ≡ Some i = ap (λ names. place_in names name) on.lets ∙ place_in_front scope.lets on.later name i at_l in
        let spelled : name_at whole.lets i ≡ name = name_at_place whole.lets name i there in
        known (expr.Let i)
        (ap (λ o. is_some o || has_name scope.cells name || has_name scope.lets name) at_s ∙ (ap (λ o. is_some o || has_name scope.lets name) at_c ∙ ap is_some at_l))
        (printed-let whole i ∙ ap leaf spelled) (tokens-let whole i ∙ ap (λ w. leaf_token (token.Word w)) spelled)
        (ap (λ o. first_of o (place_in whole.cells name) (place_in whole.lets name)) no_sensor
        ∙ (ap (λ o. first_of None o (place_in whole.lets name)) no_cell ∙ ap (λ o. first_of None None o) there))
    by None None None at_s at_c at_l =
        unknown
        (ap (λ o. is_some o || has_name scope.cells name || has_name scope.lets name) at_s ∙ (ap (λ o. is_some o || has_name scope.lets name) at_c ∙ ap is_some at_l))
