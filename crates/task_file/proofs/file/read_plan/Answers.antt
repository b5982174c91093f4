use Rattle.task_file.proofs.PlanLaws.{accepted_files_are_plans}
use Rattle.task_file.proofs.file.read_plan.Goals as goal

pub make-requires : goal.make-requires
make-requires c = accepted_files_are_plans c.args.bytes.now c.in_ok-parts.parts c.in_ok-parts.ensures
