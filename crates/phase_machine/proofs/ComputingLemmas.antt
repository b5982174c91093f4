-- What a slot computes has the cells that it was run over.
use Rattle.std.proofs.Common.{◌≡◌, ℕ, ℤ, List, [], ◌∷◌, length, refl, ◌∙◌}
use Rattle.rcp_base.proofs.TableLaws.{length-table}
use Rattle.rcp_model.specs.declared.plan.PlanParts.{PlanParts}
use Rattle.rcp_model.specs.declared.task.Task.{Task}
use Rattle.rcp_model.specs.Slot.{cells_after_slot, cells_after_tasks, tasks_of}
use Rattle.rcp_model.specs.Task.{cells_after_task}
use Rattle.rcp_model.specs.Uniprocessor.{ProcessorState}
use Rattle.replica_parts.specs.States.{state_after_compute}
use Rattle.mailbox.specs.Mailboxes.{AreAlike, AreSized, Mailboxes}

cells_of_task : (task : Task) (sensors cells : List ℤ)
    → length (cells_after_task task sensors cells) ≡ length cells
unfolding cells_after_task
cells_of_task task sensors cells = length-table _ _

cells_of_tasks : (tasks : List Task) (sensors cells : List ℤ)
    → length (cells_after_tasks tasks sensors cells) ≡ length cells
cells_of_tasks [] sensors cells = refl
cells_of_tasks (task ∷ tasks) sensors cells =
    cells_of_tasks tasks sensors (cells_after_task task sensors cells)
    ∙ cells_of_task task sensors cells

pub computed_size : (plan : PlanParts) (sensors : List ℤ) (held : ProcessorState)
    → length (state_after_compute plan sensors held).cells ≡ length held.cells
unfolding cells_after_slot
computed_size plan sensors held = cells_of_tasks (tasks_of plan held.slot) sensors held.cells

-- mailboxes keep their sizes
pub sized_again : (replicas cells : ℕ) (new old : Mailboxes)
    → AreAlike new old → AreSized replicas cells old → AreSized replicas cells new
sized_again replicas cells new old alike sized =
    record { senders = alike.senders ∙ sized.senders; cells = alike.cells ∙ sized.cells }
