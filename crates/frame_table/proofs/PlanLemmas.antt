-- A table of a plan does what the plan says.
use Rattle.std.proofs.Common.{◌≡◌, ℕ, zero, suc, ◌<◌, ℤ, pos, List, [], ◌∷◌, map, length, get_or, refl, ap, sym, ◌∙◌, rules}
use Rattle.std.proofs.lemmas.List.{get_or-map, length-map}
use Rattle.rcp_model.specs.declared.expr.Expr.{the_lemmas}
use Rattle.rcp_model.specs.declared.task.Task.{Task}
use Rattle.rcp_model.specs.declared.plan.SlotRow.{SlotRow}
use Rattle.rcp_model.specs.declared.plan.ActuatorRow.{ActuatorRow}
use Rattle.rcp_model.specs.declared.plan.PlanParts.{PlanParts}
use Rattle.rcp_model.specs.Slot.{no_task, no_slot, no_actuator, actuator_at, numbered, cells_after_tasks, cells_after_slot, actuator_value}
use Rattle.rcp_model.specs.Task.{cells_after_task}
use Rattle.task_code.specs.Machine.{results}
use Rattle.task_code.specs.Compiler.{task_code, expr_code}
use Rattle.task_code.proofs.SizeLaws.{expr_code_computes}
use Rattle.frame_table.specs.declared.table.Table.{Table}
use Rattle.frame_table.specs.Tasks.{cells_after_number, cells_after_numbers}
use Rattle.frame_table.specs.Plan.{IsOf, targets_of, programs_of, slots_of, commands_of}
use Rattle.frame_table.specs.Values.{command_value}
use Rattle.frame_table.proofs.TaskLemmas.{code_leaves}

-- what a function makes of an item, or of what stands where there is none
item-map : {X Y : Type 0} (f : X → Y) (xs : List X) (i : ℕ) (d : X) → get_or (map f xs) i (f d) ≡ f (get_or xs i d)
item-map f [] i d = refl
item-map f (x ∷ xs) zero d = refl
item-map f (x ∷ xs) (suc i) d = item-map f xs i d

number_leaves : (tasks : List Task) (number : ℕ) (sensors cells : List ℤ) → cells_after_number (programs_of tasks) number sensors cells ≡ cells_after_task (get_or tasks number no_task) sensors cells
number_leaves tasks number sensors cells =
    rw (item-map task_code tasks number no_task, item-map targets_of tasks number no_task) (code_leaves (get_or tasks number no_task) sensors cells)

pub numbers_leave : (tasks : List Task) (numbers : List ℕ) (sensors cells : List ℤ) → cells_after_numbers (programs_of tasks) numbers sensors cells ≡ cells_after_tasks (numbered tasks numbers) sensors cells
numbers_leave tasks [] sensors cells = refl
numbers_leave tasks (number ∷ numbers) sensors cells =
    ap (λ found. cells_after_numbers (programs_of tasks) numbers sensors found) (number_leaves tasks number sensors cells)
    ∙ numbers_leave tasks numbers sensors (cells_after_task (get_or tasks number no_task) sensors cells)

-- a slot leaves what the plan says
pub slot_leaves : (plan : PlanParts) (slot : ℕ) (sensors cells : List ℤ) → cells_after_numbers (programs_of plan.tasks) (get_or (slots_of plan.slots) slot []) sensors cells ≡ cells_after_slot plan slot sensors cells
unfolding cells_after_slot
slot_leaves plan slot sensors cells =
    ap (λ numbers. cells_after_numbers (programs_of plan.tasks) numbers sensors cells) (item-map (λ (row : SlotRow). row.tasks) plan.slots slot no_slot)
    ∙ numbers_leave plan.tasks (get_or plan.slots slot no_slot).tasks sensors cells

-- a slot of a table of the plan
pub slot_is :
    (plan : PlanParts) (table : Table) (slot : ℕ) (numbers : List ℕ) (sensors cells after : List ℤ) → IsOf plan table →
    numbers ≡ get_or table.slots slot [] → after ≡ cells_after_numbers table.programs numbers sensors cells →
    after ≡ cells_after_slot plan slot sensors cells
slot_is plan table slot numbers sensors cells after is_of numbers_are ran =
    ran
    ∙ ap (λ found. cells_after_numbers table.programs found sensors cells) numbers_are
    ∙ ap (λ slots. cells_after_numbers table.programs (get_or slots slot []) sensors cells) is_of.slots
    ∙ ap (λ programs. cells_after_numbers programs (get_or (slots_of plan.slots) slot []) sensors cells) is_of.programs
    ∙ slot_leaves plan slot sensors cells

-- the code of an actuator gives its value, and where there is none, 0
values_of : (actuators : List ActuatorRow) (actuator : ℕ) (sensors cells : List ℤ)
    → command_value (commands_of actuators) actuator sensors cells ≡ actuator_value (get_or actuators actuator no_actuator) sensors cells
values_of [] actuator sensors cells = search (rules, the_lemmas)
values_of (row ∷ rows) zero sensors cells = ap (λ values. get_or values 0 (pos 0)) ((expr_code_computes row.value).values sensors cells)
values_of (row ∷ rows) (suc actuator) sensors cells = values_of rows actuator sensors cells

-- an actuator of a table of the plan
pub value_is :
    (plan : PlanParts) (table : Table) (actuator : ℕ) (sensors cells : List ℤ) (value : ℤ) → IsOf plan table
    → value ≡ command_value table.commands actuator sensors cells
    → value ≡ actuator_value (actuator_at plan actuator) sensors cells
value_is plan table actuator sensors cells value is_of gave =
    gave
    ∙ ap (λ codes. command_value codes actuator sensors cells) is_of.commands
    ∙ values_of plan.actuators actuator sensors cells
