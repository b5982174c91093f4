-- One step of the code that reads statements.
use Rattle.std.proofs.Common.{◌≡◌, ◌≢◌, ℕ, suc, ◌+◌, ◌<◌, ◌≤◌, ◌==◌, Bool, true, false, List, [], ◌∷◌, ◌++◌, length, Result, Ok, Err, refl, sym, ap, ◌∙◌, subst, arith, append_assoc, length-append}
use Rattle.std.proofs.lemmas.Bool.{eqb-true}
use Rattle.rcp_model.specs.declared.task.LetRow.{LetRow}
use Rattle.rcp_model.specs.declared.task.SetRow.{SetRow}
use Rattle.rcp_model.specs.declared.task.Task.{Task}
use Rattle.task_lang.specs.declared.token.Token.{Token}
use Rattle.task_lang.specs.declared.reader.Level.TheVariants as level
use Rattle.task_lang.specs.declared.reader.ReadFault.{ReadFault}
use Rattle.task_lang.specs.declared.reader.ReadFault.TheVariants as fault
use Rattle.task_lang.specs.declared.statements.Rows.{Rows}
use Rattle.task_lang.specs.Words.{Scope}
use Rattle.task_lang.specs.Rules.{expr_rule, enclosed_by}
use Rattle.rcp_base.specs.Answers.{◌>>=◌}
use Rattle.task_lang.specs.ReaderParts.{Read, Reader, bound, made}
use Rattle.task_lang.specs.Reader.{alone, expr_reader, readers}
use Rattle.task_lang.specs.Faults.{Answers}
use Rattle.task_lang.specs.Statements.{Statement, Let, Set, IsStatement, scope_of, lets_behind, let_rows, set_rows, task_with, statements_rule}
use Rattle.task_lang.specs.StatementReaders.{statement_reader, then_more, many, read_task}
use Rattle.task_lang.specs.inner.Levels.{Follows, Fails, IsReadResult, level_reader}
use Rattle.task_lang.specs.inner.Rows.{IsAdded}
use Rattle.task_lang.proofs.ReadingLaws.{Lawful}
use Rattle.task_lang.proofs.Sequences.{never}
use Rattle.task_lang.proofs.Levels.{expr_goes, expr_lawful, mark_ends}
use Rattle.task_lang.proofs.Manies.{one_shrinks, many-step}
use Rattle.task_lang.proofs.StatementLemmas.{statement_lawful, statement_filled}
use Rattle.task_lang.proofs.TextLemmas.{MadeOf, tasks_answer}

at_most_one : (names : List (List ℕ)) (x : Statement) → length (lets_behind names x) ≤ length names + 1
at_most_one names (Let name value) = omega (arith, length-append names (name ∷ []))
at_most_one names (Set name value) = omega arith

none_left : (next : List Token) → (length next == 0) ≡ true → next ≡ []
none_left [] is = refl
none_left (token ∷ rest) is = let none : suc (length rest) ≡ 0 = eqb-true (suc (length rest)) 0 is in absurd (omega arith)

module _ (n : ℕ) (sensors cells : List (List ℕ)) where
  -- a statement behind these lets
  abbrev one_read : List (List ℕ) → Reader Statement
  one_read lets = let scope = scope_of sensors cells lets in statement_reader (expr_reader scope (readers scope n))

  abbrev all_read : List (List ℕ) → Reader (List Statement)
  all_read = many lets_behind one_read

  abbrev IsOne : List (List ℕ) → List Token → Statement → Type 0
  IsOne lets = let scope = scope_of sensors cells lets in IsStatement (expr_rule scope (enclosed_by scope n))

  one_lawful : (lets : List (List ℕ)) → Lawful (IsOne lets) never (one_read lets)
  one_lawful lets =
      let scope = scope_of sensors cells lets in
      statement_lawful (expr_rule scope (enclosed_by scope n)) expr_goes (expr_reader scope (readers scope n)) (expr_lawful scope n) mark_ends

  one_filled : (lets : List (List ℕ)) (tokens : List Token) (x : Statement) → IsOne lets tokens x → 0 < length tokens
  one_filled lets =
      let scope = scope_of sensors cells lets in
      statement_filled (expr_rule scope (enclosed_by scope n)) expr_goes (expr_reader scope (readers scope n)) (expr_lawful scope n) mark_ends

  one_step : (lets : List (List ℕ)) (tokens : List Token) → all_read lets tokens ≡ bound (one_read lets) (then_more lets_behind all_read lets) tokens
  one_step = many-step IsOne lets_behind one_read one_lawful one_filled

  statement_shorter : (lets : List (List ℕ)) (rest next : List Token) (x : Statement)
      → statement_reader (level_reader level.Or (scope_of sensors cells lets) n) rest ≡ Ok (x, next) → length next < length rest
  unfolding level_reader
  statement_shorter lets rest next x is = one_shrinks IsOne lets_behind one_read one_lawful one_filled lets rest next x is

  -- the task of these rows, and of those that are yet to be read
  abbrev task_of_both : List ℕ → Rows → List Statement → Task
  task_of_both name rows statements = record { name = name; lets = rows.lets ++ let_rows statements; sets = rows.sets ++ set_rows cells statements }

  abbrev with_rest : List ℕ → Rows → Read (List Statement) → Result Task ℕ
  with_rest name rows read = (read >>= alone) >>= λ statements. Ok (task_of_both name rows statements)

  -- the answer of all tokens, from the rows so far and the tokens that are left
  unfoldable pub task_behind : List ℕ → Rows → List Token → Result Task ℕ
  task_behind name rows tokens = with_rest name rows (all_read rows.names tokens)

  let_rows-join : (x : Statement) (others : List Statement) → let_rows (x ∷ others) ≡ let_rows (x ∷ []) ++ let_rows others
  let_rows-join (Let name value) others = refl
  let_rows-join (Set name value) others = refl

  set_rows-join : (x : Statement) (others : List Statement) → set_rows cells (x ∷ others) ≡ set_rows cells (x ∷ []) ++ set_rows cells others
  set_rows-join (Let name value) others = refl
  set_rows-join (Set name value) others = refl

  pub task_begins : (name : List ℕ) (rows : Rows) (tokens : List Token) → rows.names ≡ [] → rows.lets ≡ [] → rows.sets ≡ []
      → task_behind name rows tokens ≡ read_task n sensors cells name tokens
  unfolding task_behind read_task
  task_begins name rows tokens none no_lets no_sets =
      let begun : List (List ℕ) → List LetRow → List SetRow → Result Task ℕ = λ names lets sets. task_behind name (record { names = names; lets = lets; sets = sets }) tokens in
      ap (λ names. begun names rows.lets rows.sets) none ∙ (ap (λ lets. begun [] lets rows.sets) no_lets ∙ ap (λ sets. begun [] [] sets) no_sets)

  -- a statement's rows come before those of the rest
  joined : (name : List ℕ) (x : Statement) (old new : Rows) → IsAdded cells x old new → (others : List Statement)
      → task_of_both name new others ≡ task_of_both name old (x ∷ others)
  joined name x old new added others =
      let lets : new.lets ++ let_rows others ≡ old.lets ++ let_rows (x ∷ others) =
      ap (λ list. list ++ let_rows others) added.lets ∙ (append_assoc old.lets (let_rows (x ∷ [])) (let_rows others) ∙ ap (λ list. old.lets ++ list) (sym (let_rows-join x others))) in
      let sets : new.sets ++ set_rows cells others ≡ old.sets ++ set_rows cells (x ∷ others) =
      ap (λ list. list ++ set_rows cells others) added.sets ∙ (append_assoc old.sets (set_rows cells (x ∷ [])) (set_rows cells others) ∙ ap (λ list. old.sets ++ list) (sym (set_rows-join x others))) in
      cc

  with_rest-joined : (name : List ℕ) (x : Statement) (old new : Rows) → IsAdded cells x old new → (read : Read (List Statement))
      → with_rest name new read ≡ with_rest name old (read >>= made (λ others. x ∷ others))
  with_rest-joined name x old new added (Ok (others, [])) = ap Ok (joined name x old new added others)
  with_rest-joined name x old new added (Ok (others, token ∷ rest)) = refl
  with_rest-joined name x old new added (Err left) = refl

  step_read : (lets : List (List ℕ)) (rest next : List Token) (x : Statement)
      → statement_reader (level_reader level.Or (scope_of sensors cells lets) n) rest ≡ Ok (x, next)
      → all_read lets rest ≡ then_more lets_behind all_read lets x next
  unfolding level_reader
  step_read lets rest next x is =
      one_step lets rest ∙ ap (λ y. y >>= λ (got : Statement × List Token). then_more lets_behind all_read lets got.0 got.1) is

  one_statement : (name : List ℕ) (x : Statement) (old new : Rows) → IsAdded cells x old new → (rest next : List Token)
      → statement_reader (level_reader level.Or (scope_of sensors cells old.names) n) rest ≡ Ok (x, next) → next ≢ []
      → task_behind name new next ≡ task_behind name old rest
  unfolding task_behind
  one_statement name x old new added rest [] is some = absurd (some refl)
  one_statement name x old new added rest (token ∷ next) is some =
      ap (λ names. with_rest name new (all_read names (token ∷ next))) added.names
      ∙ (with_rest-joined name x old new added (all_read (lets_behind old.names x) (token ∷ next))
      ∙ ap (with_rest name old) (sym (step_read old.names rest (token ∷ next) x is)))

  last_statement : (name : List ℕ) (x : Statement) (old new : Rows) → IsAdded cells x old new → (rest next : List Token)
      → statement_reader (level_reader level.Or (scope_of sensors cells old.names) n) rest ≡ Ok (x, next) → next ≡ []
      → task_behind name old rest ≡ Ok (record { name = name; lets = new.lets; sets = new.sets })
  unfolding task_behind
  last_statement name x old new added rest next is none =
      ap (with_rest name old) (step_read old.names rest next x is ∙ ap (then_more lets_behind all_read old.names x) none)
      ∙ cc (added.lets, added.sets)

  no_statement : (name : List ℕ) (rows : Rows) (rest : List Token) (fault : ReadFault)
      → Fails fault (statement_reader (level_reader level.Or (scope_of sensors cells rows.names) n) rest) → Fails fault (task_behind name rows rest)
  unfolding level_reader task_behind
  no_statement name rows rest fault.Memory is = tt
  no_statement name rows rest (fault.At left) is =
      ap (with_rest name rows) (one_step rows.names rest ∙ ap (λ y. y >>= λ (got : Statement × List Token). then_more lets_behind all_read rows.names got.0 got.1) is)

  module _ (name : List ℕ) (rows : Rows) (scope : Scope) (known : List (List ℕ)) (is_scope : scope ≡ scope_of sensors cells known) (are_known : known ≡ rows.names) (rest : List Token) where
    same_scope : scope_of sensors cells rows.names ≡ scope
    same_scope = sym (is_scope ∙ ap (scope_of sensors cells) are_known)

    here : statement_reader (level_reader level.Or (scope_of sensors cells rows.names) n) rest ≡ statement_reader (level_reader level.Or scope n) rest
    here = ap (λ scope. statement_reader (level_reader level.Or scope n) rest) same_scope

    -- the loop's list is shorter behind a statement
    pub next_shorter : (x : Statement) (next : List Token) → statement_reader (level_reader level.Or scope n) rest ≡ Ok (x, next) → length next < length rest
    next_shorter x next is = statement_shorter rows.names rest next x (here ∙ is)

    -- and with it the names of lets have room
    pub still_few : (x : Statement) (new : Rows) (next : List Token) (most : ℕ) → statement_reader (level_reader level.Or scope n) rest ≡ Ok (x, next) → IsAdded cells x rows new
        → length rows.names + length rest ≤ most → length new.names + length next ≤ most
    still_few x new next most is added few =
        let less : length next < length rest = next_shorter x next is in
        let one : length new.names ≤ length rows.names + 1 = subst (λ names. length names ≤ length rows.names + 1) (sym added.names) (at_most_one rows.names x) in
        omega arith

    -- the loop goes on behind a statement
    pub one_more : (x : Statement) (new : Rows) (next : List Token) (empty : Bool) → statement_reader (level_reader level.Or scope n) rest ≡ Ok (x, next) → IsAdded cells x rows new
        → empty ≡ (length next == 0) → empty ≡ false → task_behind name new next ≡ task_behind name rows rest
    one_more x new next empty is added test other =
        one_statement name x rows new added rest next (here ∙ is) (λ none. let same : (length next == 0) ≡ true = ap (λ list. length list == 0) none in cc)

    -- it ends with the tokens
    pub the_last : (x : Statement) (new : Rows) (next : List Token) (empty : Bool) → statement_reader (level_reader level.Or scope n) rest ≡ Ok (x, next) → IsAdded cells x rows new
        → empty ≡ (length next == 0) → empty ≡ true → task_behind name rows rest ≡ Ok (record { name = name; lets = new.lets; sets = new.sets })
    the_last x new next empty is added test same =
        last_statement name x rows new added rest next (here ∙ is) (none_left next (sym test ∙ same))

    -- or at a fault
    pub the_fault : (fault : ReadFault) → Fails fault (statement_reader (level_reader level.Or scope n) rest) → Fails fault (task_behind name rows rest)
    the_fault fault is = no_statement name rows rest fault (subst (Fails fault) (sym here) is)

-- what follows the reader of tasks is right by the grammar
pub task_read : (n : ℕ) (sensors cells : List (List ℕ)) (name : List ℕ) (tokens : List Token) (result : Result Task ReadFault)
    → Follows (λ (task : Task). task) result (read_task n sensors cells name tokens) → IsReadResult (MadeOf (task_with cells name) (statements_rule n sensors cells)) tokens result
task_read n sensors cells name tokens (Ok task) is =
    subst (Answers (MadeOf (task_with cells name) (statements_rule n sensors cells)) tokens) is (tasks_answer n sensors cells name tokens)
task_read n sensors cells name tokens (Err fault.Memory) is = tt
task_read n sensors cells name tokens (Err (fault.At left)) is =
    subst (Answers (MadeOf (task_with cells name) (statements_rule n sensors cells)) tokens) is (tasks_answer n sensors cells name tokens)
