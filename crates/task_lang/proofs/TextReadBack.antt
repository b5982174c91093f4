-- A text with the tokens that are printed of a task that was read is read as the same task.
use Rattle.std.proofs.Common.{◌≡◌, ℕ, List, Result, Ok, Err, sym, ap, ◌∙◌, subst}
use Rattle.rcp_model.specs.declared.task.Task.{Task}
use Rattle.task_lang.specs.declared.token.Token.{Token}
use Rattle.task_lang.specs.Tokens.{tokens_of}
use Rattle.task_lang.specs.Reader.{whole}
use Rattle.task_lang.specs.Faults.{Answers}
use Rattle.task_lang.specs.Statements.{IsBody, task_with, IsTask}
use Rattle.task_lang.specs.StatementReaders.{statements_reader}
use Rattle.task_lang.specs.NameFaults.{first_wrong_name}
use Rattle.task_lang.proofs.PrintedTokens.{task_tokens}
use Rattle.task_lang.specs.ReadBack.{IsReadAs}
use Rattle.task_lang.proofs.StatementLemmas.{bodies_read}
use Rattle.task_lang.proofs.TokensReadBack.{tokens_read_back}

-- tokens that have an answer write one tree at most
one_tree : {X : Type 0} (Permits : List Token → X → Type 0) (tokens : List Token) (answer : Result X ℕ) → Answers Permits tokens answer
    → (a b : X) → Permits tokens a → Permits tokens b → a ≡ b
one_tree Permits tokens (Ok x) answers a b first second = answers.1 a first ∙ sym (answers.1 b second)
one_tree Permits tokens (Err left) answers a b first second = absurd (answers.1.unread a first)

pub one_task : (sensors cells : List (List ℕ)) (name : List ℕ) (tokens : List Token) (a b : Task) → IsTask sensors cells name tokens a → IsTask sensors cells name tokens b → a ≡ b
one_task sensors cells name tokens a b first second =
    first.2
    ∙ (ap (task_with cells name)
    (one_tree (IsBody sensors cells) tokens (whole (statements_reader 64 sensors cells) tokens) (bodies_read sensors cells tokens) first.0 second.0 first.1 second.1)
    ∙ sym second.2)

pub text_read_back : (sensors cells : List (List ℕ)) (text printed : List ℕ) (task : Task) → IsReadAs sensors cells text task → tokens_of printed ≡ task_tokens sensors cells task
    → IsReadAs sensors cells printed task
text_read_back sensors cells text printed task is same =
    let again = tokens_read_back sensors cells task.name (tokens_of text) task is.permitted is.fine in
    let permitted : IsTask sensors cells task.name (tokens_of printed) task = subst (λ list. IsTask sensors cells task.name list task) (sym same) again.0 in
    record {
      permitted = permitted;
      only = λ other derived. one_task sensors cells task.name (tokens_of printed) other task derived permitted;
      fine = ap (first_wrong_name sensors cells) same ∙ again.1;
    }
