-- A right answer to a text is that of the reader of texts, unless memory ran out.
use Rattle.std.proofs.Common.{◌≡◌, ◌⊎◌, ℕ, List, Option, Some, None, Result, Ok, Err, inl, inr, []}
use Rattle.task_lang.specs.declared.fault.LangFault.{LangFault}
use Rattle.task_lang.specs.declared.fault.LangFault.TheVariants.{Memory}
use Rattle.task_lang.specs.NameFaults.{NameFault, IsUnknown, IsBadTarget, first_wrong_name}
use Rattle.task_lang.specs.Tokens.{tokens_of}
use Rattle.task_lang.specs.Rules.{IsExpr}
use Rattle.task_lang.specs.Reader.{whole, expr_reader, readers}
use Rattle.task_lang.specs.Statements.{IsTask, scope_of}
use Rattle.task_lang.specs.StatementReaders.{read_task}
use Rattle.task_lang.specs.TextReaders.{text_answer, read_expr, read_body}
use Rattle.task_lang.specs.Readings.{ExpressionAnswersAreRead, BodyAnswersAreRead}
use Rattle.task_lang.proofs.AnswerLemmas.{one_answer}
use Rattle.task_lang.proofs.TextLemmas.{expression_texts_read, body_texts_read}

-- the reader of texts never runs out of memory
never_memory : {X : Type 0} (text : List ℕ) (read : Result X ℕ) (found : Option (NameFault × ℕ)) → text_answer text read found ≡ Err Memory → ⊥
never_memory text (Ok x) None is = cc
never_memory text (Ok x) (Some (IsUnknown, left)) is = cc
never_memory text (Ok x) (Some (IsBadTarget, left)) is = cc
never_memory text (Err left) found is = cc

-- one of two answers to a text is the other, where the other never runs out of memory
same_answer : {X : Type 0} (said answer : Result X LangFault) → (said ≡ Err Memory → ⊥)
    → ((answer ≡ Err Memory) ⊎ (said ≡ Err Memory)) ⊎ (answer ≡ said) → (answer ≡ Err Memory) ⊎ (answer ≡ said)
same_answer said answer never (inl (inl memory)) = inl memory
same_answer said answer never (inl (inr memory)) = absurd (never memory)
same_answer said answer never (inr same) = inr same

pub expression_answers_read : ExpressionAnswersAreRead
unfolding read_expr
expression_answers_read sensors cells text answer right =
    let tokens = tokens_of text in
    let scope = scope_of sensors cells [] in
    same_answer (read_expr sensors cells text) answer
    (never_memory text (whole (expr_reader scope (readers scope 64)) tokens) (first_wrong_name sensors cells tokens))
    (one_answer (IsExpr scope) (first_wrong_name sensors cells tokens) text answer (read_expr sensors cells text) right (expression_texts_read sensors cells text))

pub body_answers_read : BodyAnswersAreRead
unfolding read_body
body_answers_read sensors cells name text answer right =
    let tokens = tokens_of text in
    same_answer (read_body sensors cells name text) answer
    (never_memory text (read_task 64 sensors cells name tokens) (first_wrong_name sensors cells tokens))
    (one_answer (IsTask sensors cells name) (first_wrong_name sensors cells tokens) text answer (read_body sensors cells name text) right (body_texts_read sensors cells name text))
