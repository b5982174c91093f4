use Rattle.task_lang.proofs.TextLemmas.{expression_texts_read, body_texts_read}
use Rattle.task_lang.proofs.laws.texts_are_read.Goals as goal

pub returns : goal.returns
returns c = record { expressions = expression_texts_read; bodies = body_texts_read }
