-- The rows of statements whose names are right and whose tokens are fine keep the rules of a task.
use Rattle.std.proofs.Common.{◌≡◌, ◌≢◌, ℕ, zero, suc, ◌+◌, ◌<◌, ◌≤◌, List, [], ◌∷◌, ◌++◌, map, length, Bool, true, false, refl, sym, ap, ◌∙◌, subst, arith, append_assoc, append-nil, length-append}
use Rattle.std.specs.Prelude.{unwrap_or, slice_index_or, ◌||◌, All, AllPairs}
use Rattle.std.proofs.lemmas.List.{get_or-map, length-map, map_push}
use Rattle.std.proofs.lemmas.List.Elements.{All-nil, All-cons, All-append}
use Rattle.std.proofs.lemmas.List.Quantifiers.{all_pairs_push}
use Rattle.rcp_base.specs.Name.{is_name}
use Rattle.rcp_model.specs.declared.expr.Expr.{Expr}
use Rattle.rcp_model.specs.declared.task.SetRow.{SetRow}
use Rattle.rcp_model.specs.Plan.{AreNames, is_over}
use Rattle.rcp_model.proofs.NameLaws.{names_more}
use Rattle.task_lang.specs.declared.token.Token.{Token}
use Rattle.task_lang.specs.declared.token.Token.TheVariants as token
use Rattle.rcp_base.specs.Answers.{place_in}
use Rattle.task_lang.specs.Statements.{Statement, Let, Set, Many, last, next, scope_of, lets_behind, let_rows, set_rows}
use Rattle.task_lang.specs.NameFaults.{has_name}
use Rattle.task_lang.specs.RightNames.{IsKnownExpr, Earlier, IsRightTarget, sets_behind, earlier_behind, IsRightStatement}
use Rattle.task_lang.specs.Printing.{name_at, let_names}
use Rattle.task_lang.proofs.TokenSizes.{AllFine, fine_front, fine_back}
use Rattle.task_lang.proofs.WrittenStatements.{value_of, statement_tokens, statement_written}
use Rattle.task_lang.proofs.OverScopes.{expressions_over}
use Rattle.task_lang.proofs.NamesAmong.{none_among, IsCellOf, cell_of_name}

-- a new let has a name
abbrev HasName : Statement → Type 0
HasName (Let name value) = is_name name ≡ true
HasName (Set name value) = Unit {0}

fine_inside : (statement : Statement) (inside : List Token) → AllFine (statement_tokens statement inside) → AllFine inside × HasName statement
fine_inside (Let name value) inside fine = (fine_front inside (token.Semicolon ∷ []) fine.1.1.1, fine.1.0.0)
fine_inside (Set name value) inside fine = (fine_front inside (token.Semicolon ∷ []) fine.1.1, tt)

neither : (a b : Bool) → (a || b) ≡ false → (a ≡ false) × (b ≡ false)
neither false b is = (refl, is)
neither true b is = cc

module _ (sensors cells : List (List ℕ)) where
  -- over these sensors and cells, and over so many lets or more
  abbrev IsOverLets : ℕ → Expr → Type 0
  IsOverLets lets a = (most : ℕ) → lets ≤ most → is_over (length sensors) (length cells) most a ≡ true

  -- statements behind these lets and sets
  abbrev pub KeepRules : List (List ℕ) → List (List ℕ) → List Statement → Type 0
  KeepRules lets set [] = Unit {0}
  KeepRules lets set (statement ∷ others) =
      IsOverLets (length lets) (value_of statement) × HasName statement × IsRightTarget sensors cells lets set statement
      × KeepRules (lets_behind lets statement) (sets_behind set statement) others

  one_over : (earlier : Earlier) (tokens : List Token) (statement : Statement) → AllFine tokens → IsRightStatement sensors cells earlier tokens statement
      → IsOverLets (length earlier.lets) (value_of statement) × HasName statement
  one_over earlier tokens statement fine right =
      let scope = scope_of sensors cells earlier.lets in
      let token_in = statement_written (IsKnownExpr scope) tokens statement right.token_in in
      let parts = fine_inside statement token_in.inside (subst AllFine token_in.cut fine) in
      (λ most enough. expressions_over scope most enough 64 token_in.inside (value_of statement) parts.0 token_in.derived.0, parts.1)

  -- statements with right names keep them
  pub rules_kept : {earlier : Earlier} {tokens : List Token} {statements : List Statement} → AllFine tokens
      → Many (IsRightStatement sensors cells) earlier_behind earlier tokens statements → KeepRules earlier.lets earlier.set statements
  rules_kept fine (last earlier tokens statement right) = let one = one_over earlier tokens statement fine right in (one.0, one.1, right.target, tt)
  rules_kept fine (next earlier tokens statement right behind others many) =
      let one = one_over earlier tokens statement (fine_front tokens behind fine) right in
      (one.0, one.1, right.target, rules_kept (fine_back tokens behind fine) many)

  new_name : (lets : List (List ℕ)) (name : List ℕ) → (has_name sensors name || has_name cells name || has_name lets name) ≡ false
      → All (λ other. other ≢ name) (sensors ++ cells ++ lets)
  new_name lets name none =
      let Other : List ℕ → Type 0 = λ other. other ≢ name in
      let variables = neither (has_name sensors name || has_name cells name) (has_name lets name) none in
      let parts = neither (has_name sensors name) (has_name cells name) variables.0 in
      All-append Other (sensors ++ cells) lets (All-append Other sensors cells (none_among sensors name parts.0) (none_among cells name parts.1)) (none_among lets name variables.1)

  -- the names of the lets are names, and new
  pub lets_named : (lets set : List (List ℕ)) (statements : List Statement) → AreNames (sensors ++ cells ++ lets) → KeepRules lets set statements
      → AreNames (sensors ++ cells ++ (lets ++ let_names (let_rows statements)))
  lets_named lets set [] are keep = subst (λ list. AreNames (sensors ++ cells ++ list)) (sym (append-nil lets)) are
  lets_named lets set (Let name value ∷ others) are keep =
      let more : AreNames (sensors ++ cells ++ (lets ++ name ∷ [])) =
      subst AreNames (append_assoc (sensors ++ cells) lets (name ∷ [])) (names_more (sensors ++ cells ++ lets) name are keep.1 (new_name lets name keep.2)) in
      subst (λ list. AreNames (sensors ++ cells ++ list)) (append_assoc lets (name ∷ []) (let_names (let_rows others)))
      (lets_named (lets ++ name ∷ []) set others more keep.3)
  lets_named lets set (Set name value ∷ others) are keep = lets_named lets (set ++ name ∷ []) others are keep.3

  -- each let reads those before it
  pub lets_read : (lets set : List (List ℕ)) (statements : List Statement) → KeepRules lets set statements → (i : ℕ) (d : _) → i < length (let_rows statements)
      → is_over (length sensors) (length cells) (length lets + i) (slice_index_or (let_rows statements) i d).value ≡ true
  lets_read lets set [] keep i d below = absurd (omega arith)
  lets_read lets set (Let name value ∷ others) keep zero d below = keep.0 (length lets + 0) (omega arith)
  lets_read lets set (Let name value ∷ others) keep (suc i) d below =
      let place : length (lets ++ name ∷ []) + i ≡ length lets + suc i = omega (arith, length-append lets (name ∷ [])) in
      subst (λ n. is_over (length sensors) (length cells) n (slice_index_or (let_rows others) i d).value ≡ true) place
      (lets_read (lets ++ name ∷ []) set others keep.3 i d (omega arith))
  lets_read lets set (Set name value ∷ others) keep i d below = lets_read lets (set ++ name ∷ []) others keep.3 i d below

  -- each set is over all lets
  pub sets_over : (most : ℕ) (lets set : List (List ℕ)) (statements : List Statement) → length lets + length (let_rows statements) ≤ most → KeepRules lets set statements
      → All (λ (row : SetRow). is_over (length sensors) (length cells) most row.value ≡ true) (set_rows cells statements)
  sets_over most lets set [] enough keep = All-nil (λ (row : SetRow). is_over (length sensors) (length cells) most row.value ≡ true)
  sets_over most lets set (Let name value ∷ others) enough keep =
      sets_over most (lets ++ name ∷ []) set others (omega (arith, length-append lets (name ∷ []))) keep.3
  sets_over most lets set (Set name value ∷ others) enough keep =
      All-cons (λ (row : SetRow). is_over (length sensors) (length cells) most row.value ≡ true) _ (set_rows cells others)
      (keep.0 most (omega arith)) (sets_over most lets (set ++ name ∷ []) others enough keep.3)

  -- it is of a cell
  pub sets_there : (lets set : List (List ℕ)) (statements : List Statement) → KeepRules lets set statements
      → All (λ (row : SetRow). row.cell < length cells) (set_rows cells statements)
  sets_there lets set [] keep = All-nil (λ (row : SetRow). row.cell < length cells)
  sets_there lets set (Let name value ∷ others) keep = sets_there (lets ++ name ∷ []) set others keep.3
  sets_there lets set (Set name value ∷ others) keep =
      let cell = cell_of_name cells name keep.2.0 in
      All-cons (λ (row : SetRow). row.cell < length cells) _ (set_rows cells others) cell.there (sets_there lets (set ++ name ∷ []) others keep.3)

  -- of two cells
  abbrev pub Apart : SetRow → SetRow → Type 0
  Apart a b = a.cell ≢ b.cell

  -- the name of the cell that is set
  abbrev pub cell_name : SetRow → List ℕ
  cell_name row = name_at cells row.cell

  set_new : (done : List SetRow) (set : List (List ℕ)) (name : List ℕ) → map cell_name done ≡ set → has_name set name ≡ false
      → (k : ℕ) (d : SetRow) → k < length done → cell_name (slice_index_or done k d) ≢ name
  set_new done set name named none k d below same =
      let Other : List ℕ → Type 0 = λ other. other ≢ name in
      let others : All Other (map cell_name done) = subst (All Other) (sym named) (none_among set name none) in
      let counted : length (map cell_name done) ≡ length done = length-map done cell_name in
      others k (cell_name d) (omega arith) (get_or-map cell_name done k d (cell_name d) below ∙ same)

  -- and of another than those before
  pub sets_apart : (done : List SetRow) (lets set : List (List ℕ)) (statements : List Statement) → map cell_name done ≡ set → AllPairs Apart done → KeepRules lets set statements
      → AllPairs Apart (done ++ set_rows cells statements)
  sets_apart done lets set [] named apart keep = subst (AllPairs Apart) (sym (append-nil done)) apart
  sets_apart done lets set (Let name value ∷ others) named apart keep = sets_apart done (lets ++ name ∷ []) set others named apart keep.3
  sets_apart done lets set (Set name value ∷ others) named apart keep =
      let row : SetRow = record { cell = unwrap_or (place_in cells name) 0; value = value } in
      let cell : IsCellOf cells name row.cell = cell_of_name cells name keep.2.0 in
      let names : map cell_name (done ++ row ∷ []) ≡ set ++ name ∷ [] =
      map_push cell_name done row ∙ (ap (λ list. list ++ cell_name row ∷ []) named ∙ ap (λ own. set ++ own ∷ []) cell.named) in
      let new : AllPairs Apart (done ++ row ∷ []) = all_pairs_push Apart done row apart (λ k d below same. set_new done set name named keep.2.1 k d below (ap (name_at cells) same ∙ cell.named)) in
      subst (AllPairs Apart) (append_assoc done (row ∷ []) (set_rows cells others)) (sets_apart (done ++ row ∷ []) lets (set ++ name ∷ []) others names new keep.3)
