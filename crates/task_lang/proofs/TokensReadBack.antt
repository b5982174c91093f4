-- What is printed of a task, as tokens, is read again as the same task.
use Rattle.std.proofs.Common.{◌≡◌, ℕ, ◌<◌, List, [], ◌++◌, length, None, refl, sym, ap, ◌∙◌, subst, arith}
use Rattle.std.specs.Prelude.{flat_map}
use Rattle.rcp_model.specs.declared.task.Task.{Task}
use Rattle.task_lang.specs.declared.token.Token.{Token}
use Rattle.task_lang.specs.Statements.{Statement, Many, last, next, scope_of, IsBody, let_rows, set_rows, task_with, IsTask}
use Rattle.task_lang.specs.NameFaults.{first_wrong_name}
use Rattle.task_lang.specs.RightNames.{earlier_behind, IsRightStatement, IsRightBody}
use Rattle.task_lang.specs.Printing.{let_names}
use Rattle.task_lang.proofs.PrintedTokens.{let_tokens, set_tokens, task_tokens}
use Rattle.task_lang.proofs.NameScans.{body_names_scanned}
use Rattle.task_lang.proofs.RightStatements.{lets_of, sets_of, printed_statements, AreRight, all_right, lets_first, some_printed, right_body}
use Rattle.task_lang.proofs.SortedRows.{same_lets, same_sets, as_many, lets_printed, sets_printed}

filled : {Left X : Type 0} (One : Left → List Token → X → Type 0) (leave : Left → X → Left) {left : Left} {tokens : List Token} {xs : List X}
    → Many One leave left tokens xs → 0 < length xs
filled One leave (last left tokens x one) = omega arith
filled One leave (next left tokens x one behind others many) = omega arith

printed_rows : (sensors cells : List (List ℕ)) (name : List ℕ) (statements : List Statement)
    → task_tokens sensors cells (task_with cells name statements)
    ≡ flat_map (let_tokens (scope_of sensors cells (let_names (let_rows statements)))) (let_rows statements)
    ++ flat_map (set_tokens (scope_of sensors cells (let_names (let_rows statements)))) (set_rows cells statements)
unfolding task_tokens
printed_rows sensors cells name statements = refl

module _ (sensors cells : List (List ℕ)) (name : List ℕ) (statements : List Statement) (right : AreRight sensors cells [] [] statements) where
  abbrev printed : List Token
  printed = task_tokens sensors cells (task_with cells name statements)

  abbrev whole : List (List ℕ)
  whole = let_names (let_rows statements)

  abbrev order : List Statement
  order = lets_of statements ++ sets_of statements

  -- a task's rows are printed as its statements, the lets first
  printed_sorted : printed ≡ printed_statements (scope_of sensors cells whole) order
  printed_sorted =
      let shown = scope_of sensors cells whole in
      printed_rows sensors cells name statements
      ∙ (ap (λ list. flat_map (let_tokens shown) (let_rows statements) ++ list) (sym (sets_printed sensors cells whole statements [] [] right))
      ∙ sym (lets_printed shown statements (sets_of statements)))

  -- and their names are right
  printed_names : 0 < length statements → IsRightBody sensors cells printed order
  printed_names some =
      let cut : whole ≡ let_names (let_rows order) = ap let_names (sym (same_lets statements)) in
      let filled : 0 < length order = let many : length order ≡ length statements = as_many statements in omega arith in
      subst (λ list. IsRightBody sensors cells list order) (sym printed_sorted)
      (some_printed sensors cells order filled [] [] whole cut (lets_first sensors cells statements [] [] right))

  same_task : task_with cells name statements ≡ task_with cells name order
  same_task =
      ap (λ lets. record { name = name; lets = lets; sets = set_rows cells statements }) (sym (same_lets statements))
      ∙ ap (λ sets. record { name = name; lets = let_rows order; sets = sets }) (sym (same_sets cells statements))

  reads_back : 0 < length statements → IsTask sensors cells name printed (task_with cells name statements) × (first_wrong_name sensors cells printed ≡ None)
  reads_back some =
      let names : IsRightBody sensors cells printed order = printed_names some in
      let body : IsBody sensors cells printed order = right_body sensors cells names in
      ((order, body, same_task), (body_names_scanned sensors cells printed order body).1 names)

-- what is printed of a task that tokens with right names write, writes the same task, and its names are right
pub tokens_read_back : (sensors cells : List (List ℕ)) (name : List ℕ) (tokens : List Token) (task : Task) → IsTask sensors cells name tokens task → first_wrong_name sensors cells tokens ≡ None
    → IsTask sensors cells name (task_tokens sensors cells task) task × (first_wrong_name sensors cells (task_tokens sensors cells task) ≡ None)
tokens_read_back sensors cells name tokens task is none =
    let statements = is.0 in
    let names : IsRightBody sensors cells tokens statements = (body_names_scanned sensors cells tokens statements is.1).0 none in
    let ReadsBack : Task → Type 0 = λ other. IsTask sensors cells name (task_tokens sensors cells other) other × (first_wrong_name sensors cells (task_tokens sensors cells other) ≡ None) in
    subst ReadsBack (sym is.2)
    (reads_back sensors cells name statements (all_right sensors cells names) (filled (IsRightStatement sensors cells) earlier_behind names))
