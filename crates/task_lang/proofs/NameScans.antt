-- The scan of names finds nothing where the names are right, and only there.
use Rattle.std.proofs.Common.{◌≡◌, ℕ, List, [], ◌++◌, true, Option, Some, None, refl, sym, ap, ◌∙◌, subst, append-nil}
use Rattle.std.specs.Prelude.{is_some, ◌||◌}
use Rattle.task_lang.specs.declared.token.Token.{Token}
use Rattle.task_lang.specs.Words.{Scope, first_of}
use Rattle.rcp_base.specs.Answers.{place_in}
use Rattle.task_lang.specs.Rules.{IsExpr}
use Rattle.task_lang.specs.Statements.{Statement, IsStatement, Many, last, next, scope_of, lets_behind}
use Rattle.task_lang.specs.NameFaults.{wrong_name_from, first_wrong_name}
use Rattle.task_lang.specs.RightNames.{StandsFor, as_sensor, as_cell, as_let, KnownNamesStand, IsKnownExpr, Earlier, IsRightStatement, sets_behind, earlier_behind, ExpressionNamesAreScanned, BodyNamesAreScanned}
use Rattle.task_lang.proofs.NamingLemmas.{name_at_place, place_within}
use Rattle.task_lang.proofs.TokensWithin.{tokens_inner}
use Rattle.task_lang.proofs.WrittenStatements.{value_of, statement_tokens, statement_written, written_derived}
use Rattle.task_lang.proofs.Scanning.{seen_at, all_passed, passed_all, all_known_stand, all_standing_known}
use Rattle.task_lang.proofs.ScannedStatements.{statement_passed, passed_statement}

pub known_names_stand : KnownNamesStand
known_names_stand scope name known = by_place (place_in scope.sensors name) (place_in scope.cells name) (place_in scope.lets name) refl refl refl known
  where
    by_place : (sensor cell before : Option ℕ) → place_in scope.sensors name ≡ sensor → place_in scope.cells name ≡ cell → place_in scope.lets name ≡ before
        → (is_some sensor || is_some cell || is_some before) ≡ true → StandsFor scope name (first_of sensor cell before)
    by_place (Some i) cell before is _ _ known = as_sensor i (place_within scope.sensors name i is) (name_at_place scope.sensors name i is)
    by_place None (Some i) before none is _ known = as_cell i (ap is_some none) (place_within scope.cells name i is) (name_at_place scope.cells name i is)
    by_place None None (Some i) none no_cell is known =
        as_let i (ap is_some none) (ap is_some no_cell) (place_within scope.lets name i is) (name_at_place scope.lets name i is)
    by_place None None None _ _ _ known = cc

scanned : (sensors cells : List (List ℕ)) (tokens : List Token) → first_wrong_name sensors cells tokens ≡ wrong_name_from (seen_at (scope_of sensors cells []) [] []) tokens
unfolding first_wrong_name
scanned sensors cells tokens = refl

pub expression_names_scanned : ExpressionNamesAreScanned
expression_names_scanned sensors cells tokens a derived =
    let scope = scope_of sensors cells [] in
    let inner = tokens_inner scope 64 tokens a derived in
    let same : wrong_name_from (seen_at scope [] []) (tokens ++ []) ≡ first_wrong_name sensors cells tokens =
    ap (wrong_name_from (seen_at scope [] [])) (append-nil tokens) ∙ sym (scanned sensors cells tokens) in (
      λ none. all_standing_known scope tokens (passed_all scope [] [] tokens [] refl inner (same ∙ none)),
      λ known. sym same ∙ all_passed scope [] [] tokens [] refl (all_known_stand scope tokens inner known),
    )

module _ (sensors cells : List (List ℕ)) where
  abbrev over : List (List ℕ) → Scope
  over lets = scope_of sensors cells lets

  -- one statement, and what stands behind it
  one_right : (lets set : List (List ℕ)) (tokens rest : List Token) (statement : Statement) → IsStatement (IsExpr (over lets)) tokens statement
      → wrong_name_from (seen_at (over lets) [] set) (tokens ++ rest) ≡ None
      → IsRightStatement sensors cells (record { lets = lets; set = set }) tokens statement
      × (wrong_name_from (seen_at (over (lets_behind lets statement)) [] (sets_behind set statement)) rest ≡ None)
  one_right lets set tokens rest statement one none =
      let token_in = statement_written (IsExpr (over lets)) tokens statement one in
      let inside = token_in.inside in
      let here : wrong_name_from (seen_at (over lets) [] set) (statement_tokens statement inside ++ rest) ≡ None =
      ap (λ list. wrong_name_from (seen_at (over lets) [] set) (list ++ rest)) (sym token_in.cut) ∙ none in
      let right = passed_statement sensors cells lets set statement inside rest (tokens_inner (over lets) 64 inside (value_of statement) token_in.derived) here in
      let known : IsStatement (IsKnownExpr (over lets)) tokens statement =
      subst (λ list. IsStatement (IsKnownExpr (over lets)) list statement) (sym token_in.cut)
      (written_derived (IsKnownExpr (over lets)) statement inside (token_in.derived, all_standing_known (over lets) inside right.1)) in (
        record { token_in = known; target = right.0 },
        sym (statement_passed sensors cells lets set statement inside rest right.0 right.1) ∙ here,
      )

  one_passed : (earlier : Earlier) (tokens rest : List Token) (statement : Statement) → IsRightStatement sensors cells earlier tokens statement
      → wrong_name_from (seen_at (over earlier.lets) [] earlier.set) (tokens ++ rest)
      ≡ wrong_name_from (seen_at (over (lets_behind earlier.lets statement)) [] (sets_behind earlier.set statement)) rest
  one_passed earlier tokens rest statement right =
      let lets = earlier.lets in
      let set = earlier.set in
      let token_in = statement_written (IsKnownExpr (over lets)) tokens statement right.token_in in
      let inside = token_in.inside in
      let stand = all_known_stand (over lets) inside (tokens_inner (over lets) 64 inside (value_of statement) token_in.derived.0) token_in.derived.1 in
      ap (λ list. wrong_name_from (seen_at (over lets) [] set) (list ++ rest)) token_in.cut
      ∙ statement_passed sensors cells lets set statement inside rest right.target stand

  all_right : {lets : List (List ℕ)} {tokens : List Token} {statements : List Statement} → Many (λ lets. IsStatement (IsExpr (over lets))) lets_behind lets tokens statements
      → (set : List (List ℕ)) → wrong_name_from (seen_at (over lets) [] set) tokens ≡ None
      → Many (IsRightStatement sensors cells) earlier_behind (record { lets = lets; set = set }) tokens statements
  all_right (last lets tokens statement one) set none =
      let right = one_right lets set tokens [] statement one (ap (wrong_name_from (seen_at (over lets) [] set)) (append-nil tokens) ∙ none) in
      last (record { lets = lets; set = set }) tokens statement right.0
  all_right (next lets tokens statement one behind others many) set none =
      let right = one_right lets set tokens behind statement one none in
      next (record { lets = lets; set = set }) tokens statement right.0 behind others (all_right many (sets_behind set statement) right.1)

  all_right_passed : {earlier : Earlier} {tokens : List Token} {statements : List Statement} → Many (IsRightStatement sensors cells) earlier_behind earlier tokens statements
      → wrong_name_from (seen_at (over earlier.lets) [] earlier.set) tokens ≡ None
  all_right_passed (last earlier tokens statement right) =
      ap (wrong_name_from (seen_at (over earlier.lets) [] earlier.set)) (sym (append-nil tokens)) ∙ one_passed earlier tokens [] statement right
  all_right_passed (next earlier tokens statement right behind others many) =
      one_passed earlier tokens behind statement right ∙ all_right_passed many

pub body_names_scanned : BodyNamesAreScanned
body_names_scanned sensors cells tokens statements body = (
  λ none. all_right sensors cells body [] (sym (scanned sensors cells tokens) ∙ none),
  λ right. scanned sensors cells tokens ∙ all_right_passed sensors cells right,
)
