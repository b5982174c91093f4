-- What is printed of a statement of a text has its tokens, and at most four times its bytes.
use Rattle.std.proofs.Common.{◌≡◌, ℕ, ◌+◌, ◌*◌, ◌≤◌, Bool, true, false, List, [], ◌∷◌, ◌++◌, length, codes, refl, sym, ap, ◌∙◌, subst, arith, rules, length-append}
use Rattle.std.proofs.Math.Seq.{append_snoc}
use Rattle.std.specs.Prelude.{unwrap_or}
use Rattle.rcp_model.specs.declared.expr.Expr.{Expr}
use Rattle.rcp_model.specs.declared.task.LetRow.{LetRow}
use Rattle.rcp_model.specs.declared.task.SetRow.{SetRow}
use Rattle.task_lang.specs.declared.token.Token.{Token}
use Rattle.task_lang.specs.declared.token.Token.TheVariants as token
use Rattle.task_lang.specs.declared.token.Mark.{Mark}
use Rattle.task_lang.specs.declared.token.Mark.TheVariants as mark
use Rattle.task_lang.specs.Words.{Scope, is_let, token_of_mark}
use Rattle.rcp_base.specs.Answers.{place_in}
use Rattle.task_lang.specs.Rules.{plain, prefixed_by}
use Rattle.task_lang.specs.Statements.{Statement, Let, Set, IsNamed, named, IsStatement}
use Rattle.task_lang.specs.Printing.{expr_text, name_at, printed, let_text, set_text}
use Rattle.task_lang.proofs.PrintedTokens.{printed_tokens, expr_tokens, let_tokens, set_tokens}
use Rattle.task_lang.proofs.Spelling.{Ends, Spells, SpellsAlways, always_spelled, always_then, between, then_always, let_spelled, equal_spelled, assign_spelled, semicolon_spelled}
use Rattle.task_lang.proofs.SpelledLeaves.{name_spelled}
use Rattle.task_lang.proofs.TokenSizes.{sizes_of, sizes_of-append, IsFine, AllFine, fine_front}
use Rattle.task_lang.proofs.Fits.{placed_spelled, placed_short}
use Rattle.task_lang.proofs.TreeFits.{TreeFits}
use Rattle.task_lang.proofs.NamingLemmas.{name_at_place}
use Rattle.task_lang.proofs.SetNames.{IsScanned, scanned_behind, scanned_past, set_scanned}

-- a row has these tokens, and with a space behind it not many more bytes than were read, which were so many
pub record RowFits (text : List ℕ) (tokens : List Token) (size : ℕ) : Type 0 where
  pub spelled : Spells text tokens
  pub short : length text + 1 ≤ 4 * size

-- a name, a sign, an expression and a semicolon
assigned : (scope : Scope) (name sign : List ℕ) (t : Token) (value : Expr) (size : ℕ) → IsFine (token.Word name) → ((rest : List ℕ) → Ends (sign ++ rest)) → SpellsAlways sign (t ∷ [])
    → TreeFits scope value size → Spells (name ++ sign ++ expr_text scope value ++ codes ";") (token.Word name ∷ t ∷ expr_tokens scope value ++ token.Semicolon ∷ [])
assigned scope name sign t value size fine ends spelled fits =
    always_spelled (name ++ sign ++ expr_text scope value ++ codes ";") (token.Word name ∷ t ∷ expr_tokens scope value ++ token.Semicolon ∷ [])
    (then_always (name ++ sign ++ expr_text scope value) (codes ";") (token.Word name ∷ t ∷ expr_tokens scope value) (token.Semicolon ∷ []) (λ rest. refl)
    (between name sign (expr_text scope value) (token.Word name ∷ []) (t ∷ []) (expr_tokens scope value) ends (name_spelled name fine.0 fine.1) spelled
    (placed_spelled 1 (printed scope value) (printed_tokens scope value) size fits))
    semicolon_spelled)

assigned_length : (scope : Scope) (name sign : List ℕ) (value : Expr) → length (name ++ sign ++ expr_text scope value ++ codes ";") ≡ length name + length sign + length (expr_text scope value) + 1
assigned_length scope name sign value =
    omega (arith, length-append (name ++ sign ++ expr_text scope value) (codes ";"), length-append (name ++ sign) (expr_text scope value), length-append name sign)

let_row_fits : (scope : Scope) (name : List ℕ) (value : Expr) (size : ℕ) → IsFine (token.Word name) → TreeFits scope value size
    → let row : LetRow = record { name = name; value = value } in RowFits (let_text scope row) (let_tokens scope row) (length name + size + 5)
let_row_fits scope name value size fine fits =
    record {
      spelled = always_then (codes "let ") (name ++ codes " = " ++ expr_text scope value ++ codes ";") (token.Let ∷ []) (token.Word name ∷ token.Equal ∷ expr_tokens scope value ++ token.Semicolon ∷ [])
          let_spelled (assigned scope name (codes " = ") token.Equal value size fine (λ rest. refl) equal_spelled fits);
      short = omega (arith, assigned_length scope name (codes " = ") value, placed_short 1 (printed scope value), fits.short);
    }

set_row_fits : (scope : Scope) (name : List ℕ) (i : ℕ) (value : Expr) (size : ℕ) → name_at scope.cells i ≡ name → IsFine (token.Word name) → TreeFits scope value size
    → let row : SetRow = record { cell = i; value = value } in RowFits (set_text scope row) (set_tokens scope row) (length name + size + 3)
set_row_fits scope name i value size is fine fits =
    let Q : List ℕ → Type 0 = λ cell. RowFits (cell ++ codes " := " ++ expr_text scope value ++ codes ";") (token.Word cell ∷ token.Assign ∷ expr_tokens scope value ++ token.Semicolon ∷ []) (length name + size + 3) in
    subst Q (sym is) (record {
      spelled = assigned scope name (codes " := ") token.Assign value size fine (λ rest. refl) assign_spelled fits;
      short = omega (arith, assigned_length scope name (codes " := ") value, placed_short 1 (printed scope value), fits.short);
    })

-- what is printed of a statement's row
abbrev pub StatementFits : Scope → Statement → ℕ → Type 0
StatementFits scope (Let name value) size = let row : LetRow = record { name = name; value = value } in RowFits (let_text scope row) (let_tokens scope row) size
StatementFits scope (Set name value) size =
    let row : SetRow = record { cell = unwrap_or (place_in scope.cells name) 0; value = value } in RowFits (set_text scope row) (set_tokens scope row) size

row_fits_more : (text : List ℕ) (tokens : List Token) (size other : ℕ) → size ≤ other → RowFits text tokens size → RowFits text tokens other
row_fits_more text tokens size other less fits = record { spelled = fits.spelled; short = omega (arith, fits.short) }

-- a name, a mark, an expression and a semicolon
record AreParts (sign : Mark) (make : List ℕ → Expr → Statement) (Value : List Token → Expr → Type 0) (tokens : List Token) (statement : Statement) : Type 0 where
  name : List ℕ
  value : Expr
  front : List Token
  is : statement ≡ make name value
  cut : tokens ≡ token.Word name ∷ token_of_mark sign ∷ (front ++ token.Semicolon ∷ [])
  derived : Value front value

parts_of_named : (sign : Mark) (make : List ℕ → Expr → Statement) (Value : List Token → Expr → Type 0) (tokens : List Token) (statement : Statement) → IsNamed sign make Value tokens statement
    → AreParts sign make Value tokens statement
parts_of_named sign make Value tokens statement (named name list value sequence) =
    let behind = sequence.2 in
    let semicolon = behind.7 in
    let same : behind.2 ≡ value = cc in
    record {
      name = name;
      value = value;
      front = behind.0;
      is = refl;
      cut = ap (λ list. token.Word name ∷ list) (sequence.1 ∙ ap (λ list. token_of_mark sign ∷ list)
          (behind.4 ∙ ap (λ list. behind.0 ++ list) (semicolon.1 ∙ ap (λ list. token.Semicolon ∷ list) semicolon.2.0)));
      derived = subst (λ value. Value behind.0 value) same behind.6;
    }

-- the scan goes on behind a semicolon
ended : (cells : List (List ℕ)) (behind_let : Bool) (front behind : List Token) → IsScanned cells behind_let (front ++ token.Semicolon ∷ [] ++ behind) → IsScanned cells false behind
ended cells behind_let front behind scan =
    let past = scanned_past cells behind_let front (token.Semicolon ∷ behind) (subst (IsScanned cells behind_let) (append_snoc front token.Semicolon behind) scan) in
    scanned_behind cells past.0 token.Semicolon behind past.1

-- of a statement that was read, with what stands behind it
pub record IsDone (scope : Scope) (tokens behind : List Token) (statement : Statement) : Type 0 where
  pub fits : StatementFits scope statement (sizes_of tokens)
  pub scan : IsScanned scope.cells false behind

let_named : (scope : Scope) (first : Token) (name : List ℕ) (front behind : List Token) (value : Expr) → is_let first ≡ true → IsFine (token.Word name) → TreeFits scope value (sizes_of front)
    → let tokens : List Token = first ∷ token.Word name ∷ token.Equal ∷ (front ++ token.Semicolon ∷ []) in
    IsScanned scope.cells false (tokens ++ behind) → IsDone scope tokens behind (Let name value)
let_named scope token.Let name front behind value is fine fits scan =
    record {
      fits = row_fits_more _ _ (length name + sizes_of front + 5) _ (omega (arith, sizes_of-append front (token.Semicolon ∷ []))) (let_row_fits scope name value (sizes_of front) fine fits);
      scan = ended scope.cells false (token.Let ∷ token.Word name ∷ token.Equal ∷ front) behind scan;
    }
let_named scope _ name front behind value is fine fits scan = absurd (search rules)

set_named : (scope : Scope) (name : List ℕ) (front behind : List Token) (value : Expr) → IsFine (token.Word name) → TreeFits scope value (sizes_of front)
    → let tokens : List Token = token.Word name ∷ token.Assign ∷ (front ++ token.Semicolon ∷ []) in
    IsScanned scope.cells false (tokens ++ behind) → IsDone scope tokens behind (Set name value)
set_named scope name front behind value fine fits scan =
    let place = set_scanned scope.cells name (front ++ token.Semicolon ∷ [] ++ behind) scan in
    let cell : name_at scope.cells (unwrap_or (place_in scope.cells name) 0) ≡ name =
    ap (λ found. name_at scope.cells (unwrap_or found 0)) place.1 ∙ name_at_place scope.cells name place.0 place.1 in
    record {
      fits = row_fits_more _ _ (length name + sizes_of front + 3) _ (omega (arith, sizes_of-append front (token.Semicolon ∷ [])))
          (set_row_fits scope name (unwrap_or (place_in scope.cells name) 0) value (sizes_of front) cell fine fits);
      scan = ended scope.cells false (token.Word name ∷ token.Assign ∷ front) behind scan;
    }

pub statement_done : (scope : Scope) (Value : List Token → Expr → Type 0) → ((tokens : List Token) (a : Expr) → AllFine tokens → Value tokens a → TreeFits scope a (sizes_of tokens))
    → (tokens behind : List Token) (statement : Statement) → AllFine tokens → IsScanned scope.cells false (tokens ++ behind) → IsStatement Value tokens statement → IsDone scope tokens behind statement
statement_done scope Value valued tokens behind statement fine scan (plain list made derived) =
    let parts = parts_of_named mark.Assign Set Value list made derived in
    let list_fine : AllFine (token.Word parts.name ∷ token.Assign ∷ (parts.front ++ token.Semicolon ∷ [])) = subst AllFine parts.cut fine in
    let done : IsDone scope (token.Word parts.name ∷ token.Assign ∷ (parts.front ++ token.Semicolon ∷ [])) behind (Set parts.name parts.value) =
    set_named scope parts.name parts.front behind parts.value list_fine.0 (valued parts.front parts.value (fine_front parts.front (token.Semicolon ∷ []) list_fine.1.1) parts.derived)
    (subst (λ tokens. IsScanned scope.cells false (tokens ++ behind)) parts.cut scan) in
    subst (λ tokens. IsDone scope tokens behind made) (sym parts.cut) (subst (IsDone scope _ behind) (sym parts.is) done)
statement_done scope Value valued tokens behind statement fine scan (prefixed_by first list made is derived) =
    let parts = parts_of_named mark.Equal Let Value list made derived in
    let list_fine : AllFine (token.Word parts.name ∷ token.Equal ∷ (parts.front ++ token.Semicolon ∷ [])) = subst AllFine parts.cut fine.1 in
    let done : IsDone scope (first ∷ token.Word parts.name ∷ token.Equal ∷ (parts.front ++ token.Semicolon ∷ [])) behind (Let parts.name parts.value) =
    let_named scope first parts.name parts.front behind parts.value is list_fine.0 (valued parts.front parts.value (fine_front parts.front (token.Semicolon ∷ []) list_fine.1.1) parts.derived)
    (subst (λ tokens. IsScanned scope.cells false (first ∷ tokens ++ behind)) parts.cut scan) in
    subst (λ tokens. IsDone scope (first ∷ tokens) behind made) (sym parts.cut) (subst (IsDone scope _ behind) (sym parts.is) done)
