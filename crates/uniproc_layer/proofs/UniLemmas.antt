-- One frame more.
use Rattle.std.proofs.Common.{◌≡◌, ℕ, suc, ◌+◌, ◌%◌, ◌<◌, ℤ, pos, List, [], ◌∷◌, map, length, get_or, arith, add-one, Some, ap, ap₂, sym, ◌∙◌, subst, ext_get_or}
use Rattle.std.proofs.lemmas.List.{get_or-map, length-map}
use native.Mathlib.Nat.{suc-mod}
use Rattle.rcp_model.specs.declared.plan.ActuatorRow.{ActuatorRow}
use Rattle.rcp_model.specs.declared.plan.SlotRow.{SlotRow}
use Rattle.rcp_model.specs.declared.plan.PlanParts.{PlanParts}
use Rattle.rcp_model.specs.Slot.{slot_count, cells_after_slot, actuator_value, no_actuator}
use Rattle.task_code.specs.Compiler.{expr_code}
use Rattle.rcp_model.specs.Uniprocessor.{ProcessorState, ideal_slot, ideal_cells}
use Rattle.frame_table.specs.declared.table.Table.{Table}
use Rattle.frame_table.specs.Plan.{IsOf}
use Rattle.uniproc_layer.specs.Uni.{Processor, StandsAfter}

-- the slot after one frame more
pub next_slot : (a n : ℕ) → (a % n + 1) % n ≡ suc a % n
next_slot a n = ap (λ k. k % n) (add-one (a % n)) ∙ sym (suc-mod a n)

-- values in as many places are those of a list, where each is
pub values_are : (f : ActuatorRow → ℤ) (actuators : List ActuatorRow) (values : List ℤ) → length values ≡ length actuators
    → ((k : ℕ) → k < length values → get_or values k (pos 0) ≡ f (get_or actuators k no_actuator)) → values ≡ map f actuators
values_are f actuators values same each =
    ext_get_or (pos 0) values (map f actuators) (same ∙ sym (length-map actuators f))
    (λ k below. each k below ∙ sym (get_or-map f actuators k no_actuator (pos 0) (omega (arith, same, below))))

-- a table of a plan has a command for each of its actuators
pub as_many_commands : (plan : PlanParts) (table : Table) (commands : ℕ) → IsOf plan table → commands ≡ length table.commands → commands ≡ length plan.actuators
as_many_commands plan table commands is_of are =
    are ∙ ap length is_of.commands ∙ length-map plan.actuators (λ (actuator : ActuatorRow). expr_code actuator.value)

-- a processor that has run the slot at hand over the cells, has gone on by one slot and has the commands over the cells after it
pub frame_stands : (plan : PlanParts) (past : List (List ℤ)) (sensors : List ℤ) (before after : Processor) (slots : ℕ)
    → StandsAfter plan past before → slots ≡ length before.table.slots
    → after.table ≡ before.table
    → after.state.slot ≡ (before.state.slot + 1) % slots
    → after.state.cells ≡ cells_after_slot plan before.state.slot sensors before.state.cells
    → after.commands ≡ Some (map (λ (actuator : ActuatorRow). actuator_value actuator sensors after.state.cells) plan.actuators)
    → StandsAfter plan (sensors ∷ past) after
frame_stands plan past sensors before after slots stands many table slot cells commands =
    let count : slots ≡ slot_count plan = many ∙ ap length stands.table.slots ∙ length-map plan.slots (λ (row : SlotRow). row.tasks) in
    let at : before.state.slot ≡ ideal_slot plan past = ap (λ state. state.slot) stands.state in
    let next : after.state.slot ≡ ideal_slot plan (sensors ∷ past) =
    slot ∙ ap (λ n. (before.state.slot + 1) % n) count ∙ ap (λ n. (n + 1) % slot_count plan) at ∙ next_slot (length past) (slot_count plan) in
    let left : after.state.cells ≡ ideal_cells plan (sensors ∷ past) =
    cells ∙ ap (λ (state : ProcessorState). cells_after_slot plan state.slot sensors state.cells) stands.state in
    record {
      table = let P : Table → Type 0 = λ t. IsOf plan t in subst P (sym table) stands.table;
      state = ap₂ (λ (n : ℕ) (found : List ℤ). let state : ProcessorState = record { slot = n; cells = found } in state) next left;
      commands = commands ∙ ap (λ found. Some (map (λ (actuator : ActuatorRow). actuator_value actuator sensors found) plan.actuators)) left;
    }
