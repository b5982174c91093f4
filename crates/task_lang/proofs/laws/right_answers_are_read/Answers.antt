use Rattle.task_lang.proofs.AnswerLaws.{expression_answers_read, body_answers_read}
use Rattle.task_lang.proofs.laws.right_answers_are_read.Goals as goal

pub returns : goal.returns
returns c = record { expressions = expression_answers_read; bodies = body_answers_read }
