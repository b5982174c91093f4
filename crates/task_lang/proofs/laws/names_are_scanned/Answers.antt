use Rattle.task_lang.proofs.NameScans.{known_names_stand, expression_names_scanned, body_names_scanned}
use Rattle.task_lang.proofs.TargetLemmas.{expressions_have_no_targets}
use Rattle.task_lang.proofs.laws.names_are_scanned.Goals as goal

pub returns : goal.returns
returns c = record { expressions = expression_names_scanned; bodies = body_names_scanned; known = known_names_stand; targets = expressions_have_no_targets }
