-- The lets before the sets make the same task, and its printed tokens are those of the statements in that order.
use Rattle.std.proofs.Common.{◌≡◌, ℕ, suc, List, [], ◌∷◌, ◌++◌, length, true, Option, Some, None, refl, sym, ap, ◌∙◌, append_assoc}
use Rattle.std.specs.Prelude.{flat_map, is_some, unwrap_or}
use Rattle.rcp_model.specs.declared.task.LetRow.{LetRow}
use Rattle.task_lang.specs.declared.token.Token.{Token}
use Rattle.task_lang.specs.declared.token.Token.TheVariants as token
use Rattle.task_lang.specs.Words.{Scope}
use Rattle.rcp_base.specs.Answers.{place_in}
use Rattle.task_lang.specs.Statements.{Statement, Let, Set, scope_of, let_rows, set_rows}
use Rattle.task_lang.specs.NameFaults.{has_name}
use Rattle.task_lang.specs.Printing.{name_at}
use Rattle.task_lang.proofs.PrintedTokens.{expr_tokens, let_tokens, set_tokens}
use Rattle.task_lang.proofs.NamingLemmas.{name_at_place}
use Rattle.task_lang.proofs.RightStatements.{lets_of, sets_of, printed_statements, AreRight}

-- the same task

pub same_lets : (statements : List Statement) → let_rows (lets_of statements ++ sets_of statements) ≡ let_rows statements
same_lets statements = behind_lets statements (sets_of statements) (no_lets statements)
  where
    no_lets : (list : List Statement) → let_rows (sets_of list) ≡ []
    no_lets [] = refl
    no_lets (Let name value ∷ others) = no_lets others
    no_lets (Set name value ∷ others) = no_lets others

    behind_lets : (list sets : List Statement) → let_rows sets ≡ [] → let_rows (lets_of list ++ sets) ≡ let_rows list
    behind_lets [] sets none = none
    behind_lets (Let name value ∷ others) sets none = ap (λ rows. record { name = name; value = value } ∷ rows) (behind_lets others sets none)
    behind_lets (Set name value ∷ others) sets none = behind_lets others sets none

pub same_sets : (cells : List (List ℕ)) (statements : List Statement) → set_rows cells (lets_of statements ++ sets_of statements) ≡ set_rows cells statements
same_sets cells statements = behind_lets statements (sets_of statements) ∙ sets_alone statements
  where
    sets_alone : (list : List Statement) → set_rows cells (sets_of list) ≡ set_rows cells list
    sets_alone [] = refl
    sets_alone (Let name value ∷ others) = sets_alone others
    sets_alone (Set name value ∷ others) = ap (λ rows. record { cell = unwrap_or (place_in cells name) 0; value = value } ∷ rows) (sets_alone others)

    behind_lets : (list sets : List Statement) → set_rows cells (lets_of list ++ sets) ≡ set_rows cells sets
    behind_lets [] sets = refl
    behind_lets (Let name value ∷ others) sets = behind_lets others sets
    behind_lets (Set name value ∷ others) sets = behind_lets others sets

-- as many statements
pub as_many : (statements : List Statement) → length (lets_of statements ++ sets_of statements) ≡ length statements
as_many [] = refl
as_many (Let name value ∷ others) = ap suc (as_many others)
as_many (Set name value ∷ others) = one_behind (lets_of others) (Set name value) (sets_of others) ∙ ap suc (as_many others)
  where
    one_behind : (front : List Statement) (statement : Statement) (behind : List Statement) → length (front ++ statement ∷ behind) ≡ suc (length (front ++ behind))
    one_behind [] statement behind = refl
    one_behind (first ∷ front) statement behind = ap suc (one_behind front statement behind)

-- a cell that is set is printed by its name
name_again : (cells : List (List ℕ)) (name : List ℕ) → has_name cells name ≡ true → name_at cells (unwrap_or (place_in cells name) 0) ≡ name
name_again cells name is = by_place (place_in cells name) refl is
  where
    by_place : (found : Option ℕ) → place_in cells name ≡ found → is_some found ≡ true → name_at cells (unwrap_or found 0) ≡ name
    by_place (Some i) at some = name_at_place cells name i at
    by_place None at some = cc

-- the tokens of a task's rows

pub lets_printed : (shown : Scope) (statements behind : List Statement)
    → printed_statements shown (lets_of statements ++ behind) ≡ flat_map (let_tokens shown) (let_rows statements) ++ printed_statements shown behind
lets_printed shown [] behind = refl
lets_printed shown (Let name value ∷ others) behind =
    let row : LetRow = record { name = name; value = value } in
    let tokens = let_tokens shown row in
    ap (λ list. tokens ++ list) (lets_printed shown others behind)
    ∙ sym (append_assoc tokens (flat_map (let_tokens shown) (let_rows others)) (printed_statements shown behind))
lets_printed shown (Set name value ∷ others) behind = lets_printed shown others behind

pub sets_printed : (sensors cells whole : List (List ℕ)) (statements : List Statement) (lets set : List (List ℕ)) → AreRight sensors cells lets set statements
    → printed_statements (scope_of sensors cells whole) (sets_of statements) ≡ flat_map (set_tokens (scope_of sensors cells whole)) (set_rows cells statements)
sets_printed sensors cells whole [] lets set right = refl
sets_printed sensors cells whole (Let name value ∷ others) lets set right = sets_printed sensors cells whole others (lets ++ name ∷ []) set right.2
sets_printed sensors cells whole (Set name value ∷ others) lets set right =
    let shown = scope_of sensors cells whole in
    let tokens_behind : List ℕ → List Token = λ word. token.Word word ∷ token.Assign ∷ expr_tokens shown value ++ token.Semicolon ∷ [] in
    ap (λ list. tokens_behind name ++ list) (sets_printed sensors cells whole others lets (set ++ name ∷ []) right.2)
    ∙ ap (λ word. tokens_behind word ++ flat_map (set_tokens shown) (set_rows cells others)) (sym (name_again cells name right.1.0))
