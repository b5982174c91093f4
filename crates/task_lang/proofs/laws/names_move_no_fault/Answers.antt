use Rattle.task_lang.proofs.ScopeLemmas.{names_move_no_expression_fault, names_move_no_body_fault}
use Rattle.task_lang.proofs.laws.names_move_no_fault.Goals as goal

pub returns : goal.returns
returns c = record { expressions = names_move_no_expression_fault; bodies = names_move_no_body_fault }
