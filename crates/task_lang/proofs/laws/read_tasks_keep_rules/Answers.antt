use Rattle.task_lang.proofs.PlanRuleLaws.{expressions_keep_rules, bodies_keep_rules, bodies_keep_names}
use Rattle.task_lang.proofs.laws.read_tasks_keep_rules.Goals as goal

pub returns : goal.returns
returns c = record { expressions = expressions_keep_rules; bodies = bodies_keep_rules; names = bodies_keep_names }
