-- The single processor has as many cells as its plan.
use Rattle.std.proofs.Common.{◌≡◌, ℤ, List, [], ◌∷◌, length, refl, ◌∙◌}
use Rattle.std.proofs.lemmas.List.{length-map}
use Rattle.rcp_base.proofs.TableLaws.{length-table}
use Rattle.rcp_model.specs.declared.plan.PlanParts.{PlanParts}
use Rattle.rcp_model.specs.declared.task.Task.{Task}
use Rattle.rcp_model.specs.Slot.{cells_after_slot, cells_after_tasks, tasks_of}
use Rattle.rcp_model.specs.Task.{cells_after_task}
use Rattle.rcp_model.specs.Uniprocessor.{ideal_cells, ideal_slot}

after_task : (task : Task) (sensors cells : List ℤ) → length (cells_after_task task sensors cells) ≡ length cells
unfolding cells_after_task
after_task task sensors cells = length-table (length cells) _

after_tasks : (tasks : List Task) (sensors cells : List ℤ) → length (cells_after_tasks tasks sensors cells) ≡ length cells
after_tasks [] sensors cells = refl
after_tasks (task ∷ tasks) sensors cells = after_tasks tasks sensors (cells_after_task task sensors cells) ∙ after_task task sensors cells

pub as_many_cells : (plan : PlanParts) (past : List (List ℤ)) → length (ideal_cells plan past) ≡ length plan.cells
unfolding cells_after_slot
as_many_cells plan [] = length-map plan.cells _
as_many_cells plan (sensors ∷ past) =
    after_tasks (tasks_of plan (ideal_slot plan past)) sensors (ideal_cells plan past) ∙ as_many_cells plan past
