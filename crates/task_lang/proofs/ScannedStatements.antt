-- Where the scan of names finds nothing in a statement: its own name is right, and those of its value are in scope.
use Rattle.std.proofs.Common.{◌≡◌, ℕ, suc, List, [], ◌∷◌, ◌++◌, length, Bool, true, false, cond, Some, None, refl, sym, ap, ◌∙◌, append_assoc, append-nil}
use Rattle.std.specs.Prelude.{not, ◌&&◌}
use Rattle.std.specs.List.{list_all}
use Rattle.task_lang.specs.declared.token.Token.{Token}
use Rattle.task_lang.specs.declared.token.Token.TheVariants as token
use Rattle.task_lang.specs.Words.{Scope}
use Rattle.task_lang.specs.ReaderParts.{choose}
use Rattle.task_lang.specs.Statements.{Statement, Let, Set, scope_of, lets_behind}
use Rattle.task_lang.specs.NameFaults.{IsBadTarget, has_name, is_in_scope, wrong_name_from}
use Rattle.task_lang.specs.RightNames.{IsRightTarget, sets_behind}
use Rattle.task_lang.proofs.KeptLeaves.{stands_within}
use Rattle.task_lang.proofs.TokensWithin.{is_inner}
use Rattle.task_lang.proofs.WrittenStatements.{statement_tokens}
use Rattle.task_lang.proofs.Scanning.{seen_at, both, all_passed, passed_all}

not_true : (b : Bool) → not b ≡ true → b ≡ false
not_true true is = cc
not_true false is = refl

module _ (sensors cells lets set : List (List ℕ)) (name : List ℕ) where
  abbrev scope : Scope
  scope = scope_of sensors cells lets

  let_target : (rest : List Token) → wrong_name_from (seen_at scope [] set) (token.Let ∷ token.Word name ∷ token.Equal ∷ rest)
      ≡ choose (cond (is_in_scope scope name) (Some IsBadTarget) None) (wrong_name_from (seen_at scope (name ∷ []) set) rest) (λ fault. Some (fault, suc (length (token.Equal ∷ rest))))
  let_target rest = refl

  set_target : (rest : List Token) → wrong_name_from (seen_at scope [] set) (token.Word name ∷ token.Assign ∷ rest)
      ≡ choose (cond (has_name cells name && not (has_name set name)) None (Some IsBadTarget)) (wrong_name_from (seen_at scope [] (set ++ name ∷ [])) rest)
      (λ fault. Some (fault, suc (length (token.Assign ∷ rest))))
  set_target rest = refl

  let_passed : (rest : List Token) → is_in_scope scope name ≡ false
      → wrong_name_from (seen_at scope [] set) (token.Let ∷ token.Word name ∷ token.Equal ∷ rest) ≡ wrong_name_from (seen_at scope (name ∷ []) set) rest
  let_passed rest is =
      let_target rest
      ∙ ap (λ b. choose (cond b (Some IsBadTarget) None) (wrong_name_from (seen_at scope (name ∷ []) set) rest) (λ fault. Some (fault, suc (length (token.Equal ∷ rest))))) is

  let_tells : (rest : List Token) → wrong_name_from (seen_at scope [] set) (token.Let ∷ token.Word name ∷ token.Equal ∷ rest) ≡ None → is_in_scope scope name ≡ false
  let_tells rest none = by_case (is_in_scope scope name) refl
    where
      by_case : (b : Bool) → is_in_scope scope name ≡ b → is_in_scope scope name ≡ false
      by_case false is = is
      by_case true is =
          let fault : wrong_name_from (seen_at scope [] set) (token.Let ∷ token.Word name ∷ token.Equal ∷ rest) ≡ Some (IsBadTarget, suc (length (token.Equal ∷ rest))) =
          let_target rest
          ∙ ap (λ b. choose (cond b (Some IsBadTarget) None) (wrong_name_from (seen_at scope (name ∷ []) set) rest) (λ fault. Some (fault, suc (length (token.Equal ∷ rest))))) is in
          cc

  set_passed : (rest : List Token) → has_name cells name ≡ true → has_name set name ≡ false
      → wrong_name_from (seen_at scope [] set) (token.Word name ∷ token.Assign ∷ rest) ≡ wrong_name_from (seen_at scope [] (set ++ name ∷ [])) rest
  set_passed rest cell new =
      let passes : (has_name cells name && not (has_name set name)) ≡ true = ap (λ b. b && not (has_name set name)) cell ∙ ap not new in
      set_target rest
      ∙ ap (λ b. choose (cond b None (Some IsBadTarget)) (wrong_name_from (seen_at scope [] (set ++ name ∷ [])) rest) (λ fault. Some (fault, suc (length (token.Assign ∷ rest))))) passes

  set_tells : (rest : List Token) → wrong_name_from (seen_at scope [] set) (token.Word name ∷ token.Assign ∷ rest) ≡ None → (has_name cells name ≡ true) × (has_name set name ≡ false)
  set_tells rest none = by_case (has_name cells name && not (has_name set name)) refl
    where
      by_case : (b : Bool) → (has_name cells name && not (has_name set name)) ≡ b → (has_name cells name ≡ true) × (has_name set name ≡ false)
      by_case true is =
          let parts = both (has_name cells name) (not (has_name set name)) is in (parts.0, not_true (has_name set name) parts.1)
      by_case false is =
          let fault : wrong_name_from (seen_at scope [] set) (token.Word name ∷ token.Assign ∷ rest) ≡ Some (IsBadTarget, suc (length (token.Assign ∷ rest))) =
          set_target rest
          ∙ ap (λ b. choose (cond b None (Some IsBadTarget)) (wrong_name_from (seen_at scope [] (set ++ name ∷ [])) rest) (λ fault. Some (fault, suc (length (token.Assign ∷ rest))))) is in
          cc

module _ (sensors cells lets set : List (List ℕ)) where
  -- a right statement is passed
  pub statement_passed : (statement : Statement) (inside rest : List Token) → IsRightTarget sensors cells lets set statement
      → list_all (stands_within (scope_of sensors cells lets)) inside ≡ true
      → wrong_name_from (seen_at (scope_of sensors cells lets) [] set) (statement_tokens statement inside ++ rest)
      ≡ wrong_name_from (seen_at (scope_of sensors cells (lets_behind lets statement)) [] (sets_behind set statement)) rest
  statement_passed (Let name value) inside rest right all =
      let scope = scope_of sensors cells lets in
      let_passed sensors cells lets set name ((inside ++ token.Semicolon ∷ []) ++ rest) right
      ∙ (ap (wrong_name_from (seen_at scope (name ∷ []) set)) (append_assoc inside (token.Semicolon ∷ []) rest) ∙ all_passed scope (name ∷ []) set inside (token.Semicolon ∷ rest) refl all)
  statement_passed (Set name value) inside rest right all =
      let scope = scope_of sensors cells lets in
      set_passed sensors cells lets set name ((inside ++ token.Semicolon ∷ []) ++ rest) right.0 right.1
      ∙ (ap (wrong_name_from (seen_at scope [] (set ++ name ∷ []))) (append_assoc inside (token.Semicolon ∷ []) rest)
      ∙ (all_passed scope [] (set ++ name ∷ []) inside (token.Semicolon ∷ rest) refl all
      ∙ ap (λ list. wrong_name_from (seen_at (scope_of sensors cells list) [] (set ++ name ∷ [])) rest) (append-nil lets)))

  -- and one that is passed is right
  pub passed_statement : (statement : Statement) (inside rest : List Token) → list_all is_inner inside ≡ true
      → wrong_name_from (seen_at (scope_of sensors cells lets) [] set) (statement_tokens statement inside ++ rest) ≡ None
      → IsRightTarget sensors cells lets set statement × (list_all (stands_within (scope_of sensors cells lets)) inside ≡ true)
  passed_statement (Let name value) inside rest inner none =
      let scope = scope_of sensors cells lets in
      let right : is_in_scope scope name ≡ false = let_tells sensors cells lets set name ((inside ++ token.Semicolon ∷ []) ++ rest) none in
      let behind : wrong_name_from (seen_at scope (name ∷ []) set) (inside ++ token.Semicolon ∷ rest) ≡ None =
      sym (let_passed sensors cells lets set name ((inside ++ token.Semicolon ∷ []) ++ rest) right
      ∙ ap (wrong_name_from (seen_at scope (name ∷ []) set)) (append_assoc inside (token.Semicolon ∷ []) rest))
      ∙ none in
      (right, passed_all scope (name ∷ []) set inside (token.Semicolon ∷ rest) refl inner behind)
  passed_statement (Set name value) inside rest inner none =
      let scope = scope_of sensors cells lets in
      let right : (has_name cells name ≡ true) × (has_name set name ≡ false) = set_tells sensors cells lets set name ((inside ++ token.Semicolon ∷ []) ++ rest) none in
      let behind : wrong_name_from (seen_at scope [] (set ++ name ∷ [])) (inside ++ token.Semicolon ∷ rest) ≡ None =
      sym (set_passed sensors cells lets set name ((inside ++ token.Semicolon ∷ []) ++ rest) right.0 right.1
      ∙ ap (wrong_name_from (seen_at scope [] (set ++ name ∷ []))) (append_assoc inside (token.Semicolon ∷ []) rest))
      ∙ none in
      (right, passed_all scope [] (set ++ name ∷ []) inside (token.Semicolon ∷ rest) refl inner behind)
