-- What follows from the answer to a task file.
-- This project's own.
use Rattle.std.specs.Prelude.{ℕ, ◌≡◌, List, Ok}
use Rattle.rcp_model.specs.declared.plan.PlanParts.{PlanParts}
use Rattle.rcp_model.specs.Plan.{IsPlan}
use Rattle.task_file.specs.TaskFile.{task_file_result}

-- the parts of a file that passes every test keep the rules of a plan
abbrev pub AcceptedFilesArePlans : Type 0
AcceptedFilesArePlans = (bytes : List ℕ) (parts : PlanParts) → task_file_result bytes ≡ Ok parts → IsPlan parts
