use Rattle.std.proofs.Common.{[]}
use Rattle.task_lang.specs.Tokens.{tokens_of}
use Rattle.task_lang.specs.Rules.{IsExpr}
use Rattle.task_lang.specs.Statements.{scope_of, IsTask}
use Rattle.task_lang.specs.NameFaults.{first_wrong_name}
use Rattle.task_lang.proofs.AnswerLemmas.{one_answer}
use Rattle.task_lang.proofs.laws.texts_have_one_answer.Goals as goal

pub returns : goal.returns
returns c = record {
  expressions = λ sensors cells text. one_answer (IsExpr (scope_of sensors cells [])) (first_wrong_name sensors cells (tokens_of text)) text;
  bodies = λ sensors cells name text. one_answer (IsTask sensors cells name) (first_wrong_name sensors cells (tokens_of text)) text;
}
