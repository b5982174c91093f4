use Rattle.task_file.proofs.PlanLaws as plan_laws
use Rattle.task_file.proofs.laws.accepted_files_are_plans.Goals as goal

pub returns : goal.returns
returns c = plan_laws.accepted_files_are_plans
