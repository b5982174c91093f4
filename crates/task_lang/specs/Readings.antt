-- What the readers of the task language answer, for all tokens.
-- This project's own.
use Rattle.std.specs.Prelude.{ℕ, ◌<◌, ◌≤◌, ◌≡◌, ◌⊎◌, List, length, slice_index_or, Result, Err}
use Rattle.rcp_model.specs.declared.expr.Expr.{Expr}
use Rattle.rcp_model.specs.declared.task.Task.{Task}
use Rattle.task_lang.specs.declared.fault.LangFault.{LangFault}
use Rattle.task_lang.specs.declared.fault.LangFault.TheVariants.{Memory}
use Rattle.task_lang.specs.declared.token.Token.{Token}
use Rattle.task_lang.specs.Tokens.{tokens_of, lefts_of}
use Rattle.task_lang.specs.Words.{Scope}
use Rattle.task_lang.specs.Rules.{IsExpr}
use Rattle.task_lang.specs.Reader.{whole, expr_reader, readers}
use Rattle.task_lang.specs.Statements.{IsBody}
use Rattle.task_lang.specs.StatementReaders.{statements_reader}
use Rattle.task_lang.specs.Faults.{IsFaultAt, Answers}
use Rattle.task_lang.specs.Answers.{IsExprAnswer, IsBodyAnswer}
use Rattle.task_lang.specs.TextReaders.{read_expr, read_body}

-- the reader of expressions gives the one tree that the grammar has, or where the fault is
abbrev pub ExpressionsAreRead : Type 0
ExpressionsAreRead =
    (scope : Scope) (tokens : List Token) → Answers (IsExpr scope) tokens (whole (expr_reader scope (readers scope 64)) tokens)

-- the reader of bodies gives the one list of statements that the grammar has, or where the fault is
abbrev pub BodiesAreRead : Type 0
BodiesAreRead =
    (sensors cells : List (List ℕ)) (tokens : List Token) → Answers (IsBody sensors cells) tokens (whole (statements_reader 64 sensors cells) tokens)

-- a text has one answer, unless memory runs out
abbrev pub HasOneAnswer : {X : Type 0} → (Result X LangFault → Type 0) → Type 0
HasOneAnswer {X} IsRight = (a b : Result X LangFault) → IsRight a → IsRight b → ((a ≡ Err Memory) ⊎ (b ≡ Err Memory)) ⊎ (a ≡ b)

abbrev pub ExpressionsHaveOneAnswer : Type 0
ExpressionsHaveOneAnswer = (sensors cells : List (List ℕ)) (text : List ℕ) → HasOneAnswer (IsExprAnswer sensors cells text)

abbrev pub BodiesHaveOneAnswer : Type 0
BodiesHaveOneAnswer = (sensors cells : List (List ℕ)) (name text : List ℕ) → HasOneAnswer (IsBodyAnswer sensors cells name text)

-- where each token of a text begins
pub record TokensStandIn (text : List ℕ) : Type 0 where
  -- each token has a place
  pub each : length (lefts_of text) ≡ length (tokens_of text)
  -- it is within the text
  pub within : (n : ℕ) → slice_index_or (lefts_of text) n 0 ≤ length text
  -- and no byte is left only behind the last token
  pub some : (n : ℕ) → n < length (tokens_of text) → 0 < slice_index_or (lefts_of text) n 0

-- the readers of texts answer so
abbrev pub ExpressionTextsAreRead : Type 0
ExpressionTextsAreRead = (sensors cells : List (List ℕ)) (text : List ℕ) → IsExprAnswer sensors cells text (read_expr sensors cells text)

abbrev pub BodyTextsAreRead : Type 0
BodyTextsAreRead = (sensors cells : List (List ℕ)) (name text : List ℕ) → IsBodyAnswer sensors cells name text (read_body sensors cells name text)

-- where tokens go wrong does not hang on the names
abbrev pub NamesMoveNoExpressionFault : Type 0
NamesMoveNoExpressionFault = (scope other : Scope) (tokens : List Token) (n : ℕ) → IsFaultAt (IsExpr scope) tokens n → IsFaultAt (IsExpr other) tokens n

abbrev pub NamesMoveNoBodyFault : Type 0
NamesMoveNoBodyFault =
    (sensors cells other_sensors other_cells : List (List ℕ)) (tokens : List Token) (n : ℕ)
    → IsFaultAt (IsBody sensors cells) tokens n → IsFaultAt (IsBody other_sensors other_cells) tokens n

-- each right answer is the reader's, unless memory ran out
abbrev pub IsReadersAnswer : {X : Type 0} → Result X LangFault → Result X LangFault → Type 0
IsReadersAnswer said answer = (answer ≡ Err Memory) ⊎ (answer ≡ said)

abbrev pub ExpressionAnswersAreRead : Type 0
ExpressionAnswersAreRead =
    (sensors cells : List (List ℕ)) (text : List ℕ) (answer : Result Expr LangFault) → IsExprAnswer sensors cells text answer
    → IsReadersAnswer (read_expr sensors cells text) answer

abbrev pub BodyAnswersAreRead : Type 0
BodyAnswersAreRead =
    (sensors cells : List (List ℕ)) (name text : List ℕ) (answer : Result Task LangFault) → IsBodyAnswer sensors cells name text answer
    → IsReadersAnswer (read_body sensors cells name text) answer
