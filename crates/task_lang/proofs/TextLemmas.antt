-- The readers of texts answer by the grammar and the scan of names.
use Rattle.std.proofs.Common.{◌≡◌, ℕ, ◌+◌, ◌-◌, List, [], length, take, Option, Some, None, Result, Ok, Err, refl, sym, ap, ◌∙◌, subst, arith}
use Rattle.std.specs.Prelude.{slice_index_or}
use Rattle.task_lang.specs.declared.fault.LangFault.{LangFault}
use Rattle.task_lang.specs.declared.reader.ReadFault.{ReadFault}
use Rattle.task_lang.specs.declared.reader.ReadFault.TheVariants as fault
use Rattle.task_lang.specs.declared.token.Token.{Token}
use Rattle.task_lang.specs.Tokens.{tokens_of, lefts_of}
use Rattle.task_lang.specs.Rules.{IsExpr}
use Rattle.rcp_base.specs.Answers.{◌>>=◌}
use Rattle.task_lang.specs.Reader.{whole, expr_reader, readers}
use Rattle.task_lang.specs.Faults.{Begins, IsFaultAt, Answers}
use Rattle.task_lang.specs.Statements.{IsTask, scope_of, task_with, statements_rule}
use Rattle.task_lang.specs.StatementReaders.{statements_reader, read_task}
use Rattle.task_lang.specs.NameFaults.{NameFault, IsUnknown, IsBadTarget, first_wrong_name}
use Rattle.task_lang.specs.Answers.{IsAnswer}
use Rattle.task_lang.specs.TextReaders.{byte_at, fault_of_syntax, fault_of_name, with_names, text_answer, read_expr, read_body}
use Rattle.task_lang.specs.inner.Levels.{IsReadResult}
use Rattle.task_lang.specs.Readings.{TokensStandIn, ExpressionTextsAreRead, BodyTextsAreRead}
use Rattle.task_lang.proofs.FaultLemmas.{expressions_read}
use Rattle.task_lang.proofs.StatementLemmas.{statements_answer}
use Rattle.task_lang.proofs.PlaceLemmas.{tokens_stand_in}

byte_at-place : (text : List ℕ) (left : ℕ) → byte_at text left + slice_index_or (lefts_of text) (length (tokens_of text) - left) 0 ≡ length text
byte_at-place text left =
    let places : TokensStandIn text = tokens_stand_in text in
    omega (arith, places.within (length (tokens_of text) - left))

module _ {X : Type 0} (Permits : List Token → X → Type 0) (text : List ℕ) where
  names_answered : (tree : X) → Permits (tokens_of text) tree → ((other : X) → Permits (tokens_of text) other → other ≡ tree)
      → (found : Option (NameFault × ℕ)) → IsAnswer Permits found text (with_names text tree found)
  names_answered tree permitted only None = record { permitted = permitted; only = only; fine = refl }
  names_answered tree permitted only (Some (IsUnknown, left)) = record { tree = tree; permitted = permitted; left = left; first = refl; place = byte_at-place text left }
  names_answered tree permitted only (Some (IsBadTarget, left)) = record { tree = tree; permitted = permitted; left = left; first = refl; place = byte_at-place text left }

  -- what tokens are read as is what their text is
  pub text_answered : (found : Option (NameFault × ℕ)) (read : Result X ℕ) → Answers Permits (tokens_of text) read → IsAnswer Permits found text (text_answer text read found)
  text_answered found (Ok tree) is = names_answered tree is.0 is.1 found
  text_answered found (Err left) is = (length (tokens_of text) - left, is.1, byte_at-place text left)

-- a grammar of what is made of trees
abbrev pub MadeOf : {X Y : Type 0} → (X → Y) → (List Token → X → Type 0) → List Token → Y → Type 0
MadeOf {X} make Permits tokens y = (x : X) × Permits tokens x × (y ≡ make x)

begins_made : {X Y : Type 0} (make : X → Y) (Permits : List Token → X → Type 0) (tokens : List Token) → Begins Permits tokens → Begins (MadeOf make Permits) tokens
begins_made make Permits tokens begins = (begins.0, make begins.1, (begins.1, begins.2, refl))

begins_unmade : {X Y : Type 0} (make : X → Y) (Permits : List Token → X → Type 0) (tokens : List Token) → Begins (MadeOf make Permits) tokens → Begins Permits tokens
begins_unmade make Permits tokens begins = let inside = begins.2 in (begins.0, inside.0, inside.1)

-- has the same faults, and the trees made of the others
pub answers_made : {X Y : Type 0} (make : X → Y) (Permits : List Token → X → Type 0) (tokens : List Token) (read : Result X ℕ) → Answers Permits tokens read
    → Answers (MadeOf make Permits) tokens (read >>= λ x. Ok (make x))
answers_made make Permits tokens (Ok x) is =
    ((x, is.0, refl), λ y other. other.2 ∙ ap make (is.1 other.0 other.1))
answers_made make Permits tokens (Err left) is =
    let fault : IsFaultAt Permits tokens (length tokens - left) = is.1 in (
      is.0,
      record {
        within = fault.within;
        before = begins_made make Permits (take (length tokens - left) tokens) fault.before;
        there = λ less begins. fault.there less (begins_unmade make Permits (take (length tokens - left + 1) tokens) begins);
        unread = λ y other. fault.unread other.0 other.1;
      },
    )

pub expression_texts_read : ExpressionTextsAreRead
unfolding read_expr
expression_texts_read sensors cells text =
    let scope = scope_of sensors cells [] in
    text_answered (IsExpr scope) text (first_wrong_name sensors cells (tokens_of text)) (whole (expr_reader scope (readers scope 64)) (tokens_of text))
    (expressions_read scope (tokens_of text))

-- the reader of tasks answers by the grammar
pub tasks_answer : (n : ℕ) (sensors cells : List (List ℕ)) (name : List ℕ) (tokens : List Token)
    → Answers (MadeOf (task_with cells name) (statements_rule n sensors cells)) tokens (read_task n sensors cells name tokens)
unfolding read_task
tasks_answer n sensors cells name tokens =
    answers_made (task_with cells name) (statements_rule n sensors cells) tokens (whole (statements_reader n sensors cells) tokens) (statements_answer n sensors cells tokens)

pub body_texts_read : BodyTextsAreRead
unfolding read_body
body_texts_read sensors cells name text =
    text_answered (IsTask sensors cells name) text (first_wrong_name sensors cells (tokens_of text)) (read_task 64 sensors cells name (tokens_of text))
    (tasks_answer 64 sensors cells name (tokens_of text))

-- what the code answers of a text's tokens is what it answers of the text
module _ {X : Type 0} (Permits : List Token → X → Type 0) (text : List ℕ) (tokens : List Token) (cut : tokens ≡ tokens_of text) where
  syntax_answered : (found : Option (NameFault × ℕ)) (fault : ReadFault) → IsReadResult Permits tokens (Err fault) → IsAnswer Permits found text (Err (fault_of_syntax text fault))
  syntax_answered found fault.Memory is = tt
  syntax_answered found (fault.At left) is = text_answered Permits text found (Err left) (subst (λ list. Answers Permits list (Err left)) cut is)

  pub fault_answered : (found : Option (NameFault × ℕ)) (fault : ReadFault) (answer : LangFault) → IsReadResult Permits tokens (Err fault) → answer ≡ fault_of_syntax text fault
      → IsAnswer Permits found text (Err answer)
  fault_answered found fault answer is same = subst (λ answer. IsAnswer Permits found text (Err answer)) (sym same) (syntax_answered found fault is)

  names_scanned : (found : Option (NameFault × ℕ)) (tree : X) → IsReadResult Permits tokens (Ok tree) → IsAnswer Permits found text (with_names text tree found)
  names_scanned found tree is = text_answered Permits text found (Ok tree) (subst (λ list. Answers Permits list (Ok tree)) cut is)

  pub tree_answered : (found : Option (NameFault × ℕ)) (tree : X) → IsReadResult Permits tokens (Ok tree) → None ≡ found → IsAnswer Permits found text (Ok tree)
  tree_answered found tree is none =
      subst (λ found. IsAnswer Permits found text (Ok tree)) none (names_scanned None tree is)

  pub name_answered : (found : Option (NameFault × ℕ)) (tree : X) (fault : NameFault) (left : ℕ) (answer : LangFault) → IsReadResult Permits tokens (Ok tree)
      → Some (fault, left) ≡ found → answer ≡ fault_of_name text fault left → IsAnswer Permits found text (Err answer)
  name_answered found tree fault left answer is some same =
      subst (λ found. IsAnswer Permits found text (Err answer)) some
      (subst (λ answer. IsAnswer Permits (Some (fault, left)) text (Err answer)) (sym same) (names_scanned (Some (fault, left)) tree is))

-- the byte that the code finds
pub byte_found : (text lefts : List ℕ) (left place bytes : ℕ) → lefts ≡ lefts_of text → place ≡ length lefts - left → bytes ≡ slice_index_or lefts place 0
    → length text - bytes ≡ byte_at text left
byte_found text lefts left place bytes are_lefts is_place is_bytes =
    let places : TokensStandIn text = tokens_stand_in text in
    let here : length lefts - left ≡ length (tokens_of text) - left = ap (λ n. n - left) (ap length are_lefts ∙ places.each) in
    let same : bytes ≡ slice_index_or (lefts_of text) (length (tokens_of text) - left) 0 =
    is_bytes ∙ (ap (λ list. slice_index_or list place 0) are_lefts ∙ ap (λ n. slice_index_or (lefts_of text) n 0) (is_place ∙ here)) in
    ap (λ n. length text - n) same
