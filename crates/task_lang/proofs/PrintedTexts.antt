-- A task's text is printed with the tokens that it is to have, and in at most four times the bytes that the task was read from.
use Rattle.std.proofs.Common.{◌≡◌, ℕ, ◌+◌, ◌*◌, ◌≤◌, false, List, [], ◌∷◌, ◌++◌, map, length, refl, sym, ◌∙◌, subst, arith, append-nil}
use Rattle.std.proofs.Math.Seq.{append_snoc}
use Rattle.std.specs.Prelude.{flat_map, unwrap_or}
use Rattle.rcp_model.specs.declared.task.Task.{Task}
use Rattle.task_lang.specs.declared.token.Token.{Token}
use Rattle.task_lang.specs.Tokens.{tokens_of}
use Rattle.task_lang.specs.Words.{Scope}
use Rattle.rcp_base.specs.Answers.{place_in}
use Rattle.task_lang.specs.Rules.{expr_rule, enclosed_by}
use Rattle.task_lang.specs.Statements.{Statement, Let, Set, IsStatement, Many, last, next, scope_of, lets_behind, let_rows, set_rows}
use Rattle.task_lang.specs.Printing.{let_names, let_text, set_text, task_text}
use Rattle.task_lang.proofs.PrintedTokens.{let_tokens, set_tokens, task_tokens}
use Rattle.task_lang.specs.ReadBack.{IsReadAs}
use Rattle.task_lang.proofs.TokenSizes.{sizes_of, sizes_of-append, AllFine, fine_front, fine_back, tokens_are_fine, tokens_are_short}
use Rattle.task_lang.proofs.RowTexts.{RowsSpell, rows_then, rows_read, bytes_of, bytes_of-append, spaced_short}
use Rattle.task_lang.proofs.SetNames.{IsScanned, scanned_all}
use Rattle.task_lang.proofs.DerivedFits.{expressions_fit}
use Rattle.task_lang.proofs.StatementFits.{StatementFits, IsDone, statement_done}

-- what is printed of statements has its tokens, and not many more bytes than were read, which were so many
record BodyFits (scope : Scope) (statements : List Statement) (size : ℕ) : Type 0 where
  lets : RowsSpell (map (let_text scope) (let_rows statements)) (flat_map (let_tokens scope) (let_rows statements))
  sets : RowsSpell (map (set_text scope) (set_rows scope.cells statements)) (flat_map (set_tokens scope) (set_rows scope.cells statements))
  short : bytes_of (map (let_text scope) (let_rows statements)) + bytes_of (map (set_text scope) (set_rows scope.cells statements)) ≤ 4 * size

nothing_fits : (scope : Scope) → BodyFits scope [] 0
nothing_fits scope = record { lets = refl; sets = refl; short = omega arith }

one_more_fits : (scope : Scope) (statement : Statement) (others : List Statement) (size behind : ℕ) → StatementFits scope statement size → BodyFits scope others behind
    → BodyFits scope (statement ∷ others) (size + behind)
one_more_fits scope (Let name value) others size behind fits body =
    record {
      lets = (let_tokens scope (record { name = name; value = value }), flat_map (let_tokens scope) (let_rows others), refl, fits.spelled, body.lets);
      sets = body.sets;
      short = omega (arith, fits.short, body.short);
    }
one_more_fits scope (Set name value) others size behind fits body =
    record {
      lets = body.lets;
      sets = (set_tokens scope (record { cell = unwrap_or (place_in scope.cells name) 0; value = value }), flat_map (set_tokens scope) (set_rows scope.cells others), refl, fits.spelled, body.sets);
      short = omega (arith, fits.short, body.short);
    }

-- the lets before a statement and those from it on
lets_moved : (all lets : List (List ℕ)) (statement : Statement) (others : List Statement) → all ≡ lets ++ let_names (let_rows (statement ∷ others))
    → all ≡ lets_behind lets statement ++ let_names (let_rows others)
lets_moved all lets (Let name value) others is = is ∙ sym (append_snoc lets name (let_names (let_rows others)))
lets_moved all lets (Set name value) others is = is

module _ (n : ℕ) (sensors cells all : List (List ℕ)) where
  abbrev whole : Scope
  whole = scope_of sensors cells all

  abbrev Row : List (List ℕ) → List Token → Statement → Type 0
  Row lets = let scope = scope_of sensors cells lets in IsStatement (expr_rule scope (enclosed_by scope n))

  row_done : (lets others : List (List ℕ)) (tokens behind : List Token) (statement : Statement) → all ≡ lets ++ others → AllFine tokens → IsScanned cells false (tokens ++ behind)
      → Row lets tokens statement → IsDone whole tokens behind statement
  row_done lets others tokens behind statement is fine scan derived =
      let scope = scope_of sensors cells lets in
      statement_done whole (expr_rule scope (enclosed_by scope n)) (expressions_fit scope whole (record { sensors = refl; cells = refl; later = others; lets = is }) n) tokens behind statement fine scan derived

  body_fits : (lets : List (List ℕ)) (tokens : List Token) (statements : List Statement) → all ≡ lets ++ let_names (let_rows statements) → AllFine tokens → IsScanned cells false tokens
      → Many Row lets_behind lets tokens statements → BodyFits whole statements (sizes_of tokens)
  body_fits lets tokens statements is fine scan (last left list statement derived) =
      let done : IsDone whole list [] statement =
      row_done left (let_names (let_rows (statement ∷ []))) list [] statement is fine (subst (IsScanned cells false) (sym (append-nil list)) scan) derived in
      subst (BodyFits whole (statement ∷ [])) (omega arith) (one_more_fits whole statement [] (sizes_of list) 0 done.fits (nothing_fits whole))
  body_fits lets tokens statements is fine scan (next left list statement derived behind others many) =
      let done : IsDone whole list behind statement =
      row_done left (let_names (let_rows (statement ∷ others))) list behind statement is (fine_front list behind fine) scan derived in
      let rest : BodyFits whole others (sizes_of behind) =
      body_fits (lets_behind left statement) behind others (lets_moved all left statement others is) (fine_back list behind fine) done.scan many in
      subst (BodyFits whole (statement ∷ others)) (sym (sizes_of-append list behind)) (one_more_fits whole statement others (sizes_of list) (sizes_of behind) done.fits rest)

task_fits : (sensors cells : List (List ℕ)) (text : List ℕ) (task : Task) → IsReadAs sensors cells text task
    → (tokens_of (task_text sensors cells task) ≡ task_tokens sensors cells task) × (length (task_text sensors cells task) ≤ 4 * length text)
unfolding task_text task_tokens
task_fits sensors cells text task read =
    let statements = read.permitted.0 in
    let lets = let_names (let_rows statements) in
    let scope = scope_of sensors cells lets in
    let body : BodyFits scope statements (sizes_of (tokens_of text)) =
    body_fits 64 sensors cells lets [] (tokens_of text) statements refl (tokens_are_fine text) (scanned_all sensors cells (tokens_of text) read.fine) read.permitted.1 in
    let lets_text = map (let_text scope) (let_rows statements) in
    let sets_text = map (set_text scope) (set_rows cells statements) in
    let Fits : Task → Type 0 =
    λ task. (tokens_of (task_text sensors cells task) ≡ task_tokens sensors cells task) × (length (task_text sensors cells task) ≤ 4 * length text) in
    subst Fits (sym read.permitted.2) (
      rows_read (lets_text ++ sets_text) (flat_map (let_tokens scope) (let_rows statements) ++ flat_map (set_tokens scope) (set_rows cells statements))
          (rows_then lets_text sets_text (flat_map (let_tokens scope) (let_rows statements)) (flat_map (set_tokens scope) (set_rows cells statements)) body.lets body.sets),
      omega (arith, spaced_short (lets_text ++ sets_text), bytes_of-append lets_text sets_text, body.short, tokens_are_short text),
    )

-- the text that is printed of a task is read as the task's tokens
pub text_has_tokens : (sensors cells : List (List ℕ)) (text : List ℕ) (task : Task) → IsReadAs sensors cells text task
    → tokens_of (task_text sensors cells task) ≡ task_tokens sensors cells task
text_has_tokens sensors cells text task read = (task_fits sensors cells text task read).0

pub text_is_short : (sensors cells : List (List ℕ)) (text : List ℕ) (task : Task) → IsReadAs sensors cells text task
    → length (task_text sensors cells task) ≤ 4 * length text
text_is_short sensors cells text task read = (task_fits sensors cells text task read).1
