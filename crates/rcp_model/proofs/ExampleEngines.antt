-- What the slots and the actuators of the example plans compute.
use Rattle.std.proofs.Common.{◌≡◌, ◌==◌, ◌∙◌, ap, refl, rules, ℕ, zero, suc, Bool, true, false, ℤ, pos, List, [], length, Some, None, if◌then◌else◌}
use Rattle.std.specs.Prelude.{codes, slice_index_or}
use Rattle.std.specs.Int.{int_min, int_max}
use Rattle.rcp_base.specs.Arithmetic.{sum_of, difference_of, quotient_of, negation_of}
use Rattle.rcp_base.specs.Tables.{table}
use Rattle.rcp_model.specs.declared.expr.Expr.{Expr, the_lemmas}
use Rattle.rcp_model.specs.Expr.{Value, value_of}
use Rattle.rcp_model.specs.Slot.{cells_after_slot, actuator_value, no_actuator}
use Rattle.rcp_model.specs.Task.{cell_after, cells_after_task}
use Rattle.rcp_model.proofs.ComputedRuns.{Engine, engine_of}
use Rattle.rcp_model.proofs.ExamplePlans.{sets_one, position_cell, error_cell, sum_cell, number_cell, sense_value, integrate_value, move_value, motor_plan, count_value, counter_plan_voting}

-- a number of a list, and 0 past its end
abbrev at : List ℤ → ℕ → ℤ
at numbers place = slice_index_or numbers place (pos 0)

abbrev sensed : Value
sensed lets sensors cells = difference_of (at sensors 0) (at cells position_cell)

abbrev integrated : Value
integrated lets sensors cells =
    int_max (negation_of (pos 100)) (int_min (sum_of (at cells sum_cell) (at cells error_cell)) (pos 100))

abbrev moved : Value
moved lets sensors cells = sum_of (at cells position_cell) (quotient_of (at cells sum_cell) (pos 2))

abbrev counted : Value
counted lets sensors cells = sum_of (at cells number_cell) (pos 1)

sense_is : value_of sense_value ≡ sensed
sense_is = search (rules, the_lemmas)

integrate_is : value_of integrate_value ≡ integrated
integrate_is = search (rules, the_lemmas)

move_is : value_of move_value ≡ moved
move_is = search (rules, the_lemmas)

count_is : value_of count_value ≡ counted
count_is = search (rules, the_lemmas)

-- the cells with one set to a value over them
abbrev with_set : ℕ → Value → List ℤ → List ℤ → List ℤ
with_set target value sensors cells =
    table (length cells) (λ cell. if target == cell then value [] sensors cells else at cells cell)

sets_one_cell : (name : List ℕ) (target : ℕ) (e : Expr) (value : Value) (sensors cells : List ℤ) (cell : ℕ) (is_target : Bool)
    → value_of e ≡ value
    → cell_after (sets_one name target e) sensors cells cell (if is_target then Some e else None)
    ≡ (if is_target then value [] sensors cells else at cells cell)
sets_one_cell name target e value sensors cells cell true is = ap (λ v. v [] sensors cells) is
sets_one_cell name target e value sensors cells cell false is = refl

-- so runs a task that sets one cell
sets_one_runs : (name : List ℕ) (target : ℕ) (e : Expr) (value : Value) (sensors cells : List ℤ) → value_of e ≡ value
    → cells_after_task (sets_one name target e) sensors cells ≡ with_set target value sensors cells
unfolding cells_after_task
sets_one_runs name target e value sensors cells is =
    λ i. table (length cells) (λ cell. sets_one_cell name target e value sensors cells cell (target == cell) is i)

-- the motor plan
abbrev motor_slot : ℕ → List ℤ → List ℤ → List ℤ
motor_slot zero sensors cells = with_set sum_cell integrated sensors (with_set error_cell sensed sensors cells)
motor_slot (suc zero) sensors cells = with_set position_cell moved sensors cells
motor_slot (suc (suc _)) sensors cells = cells

motor_slot_is : (slot : ℕ) (sensors cells : List ℤ)
    → cells_after_slot motor_plan slot sensors cells ≡ motor_slot slot sensors cells
unfolding cells_after_slot
motor_slot_is zero sensors cells =
    ap (λ sensed_cells. cells_after_task (sets_one (codes "integrate") sum_cell integrate_value) sensors sensed_cells)
    (sets_one_runs (codes "sense") error_cell sense_value sensed sensors cells sense_is)
    ∙ sets_one_runs (codes "integrate") sum_cell integrate_value integrated sensors (with_set error_cell sensed sensors cells) integrate_is
motor_slot_is (suc zero) sensors cells = sets_one_runs (codes "move") position_cell move_value moved sensors cells move_is
motor_slot_is (suc (suc slot)) sensors cells = refl

-- the actuator of either plan shows a cell
abbrev shows_cell : ℕ → ℕ → List ℤ → List ℤ → ℤ
shows_cell cell zero sensors cells = at cells cell
shows_cell cell (suc _) sensors cells = pos 0

motor_command_is : (actuator : ℕ) (sensors cells : List ℤ)
    → actuator_value (slice_index_or motor_plan.actuators actuator no_actuator) sensors cells
    ≡ shows_cell sum_cell actuator sensors cells
motor_command_is zero sensors cells = search (rules, the_lemmas)
motor_command_is (suc actuator) sensors cells = search (rules, the_lemmas)

abbrev pub motor_engine : Engine
motor_engine = record { slot = motor_slot; command = shows_cell sum_cell }

pub motor_engine_is : engine_of motor_plan ≡ motor_engine
motor_engine_is = λ i. record {
  slot = λ slot sensors cells. motor_slot_is slot sensors cells i;
  command = λ actuator sensors cells. motor_command_is actuator sensors cells i;
}

-- the counter plan
abbrev counter_slot : ℕ → List ℤ → List ℤ → List ℤ
counter_slot zero sensors cells = with_set number_cell counted sensors cells
counter_slot (suc _) sensors cells = cells

abbrev pub counter_engine : Engine
counter_engine = record { slot = counter_slot; command = shows_cell number_cell }

module _ (medians : List ℕ) (replicas : ℕ) where
  counter_slot_is : (slot : ℕ) (sensors cells : List ℤ)
      → cells_after_slot (counter_plan_voting medians replicas) slot sensors cells ≡ counter_slot slot sensors cells
  unfolding cells_after_slot
  counter_slot_is zero sensors cells = sets_one_runs (codes "count") number_cell count_value counted sensors cells count_is
  counter_slot_is (suc slot) sensors cells = refl

  counter_command_is : (actuator : ℕ) (sensors cells : List ℤ)
      → actuator_value (slice_index_or (counter_plan_voting medians replicas).actuators actuator no_actuator) sensors cells
      ≡ shows_cell number_cell actuator sensors cells
  counter_command_is zero sensors cells = search (rules, the_lemmas)
  counter_command_is (suc actuator) sensors cells = search (rules, the_lemmas)

  pub counter_engine_is : engine_of (counter_plan_voting medians replicas) ≡ counter_engine
  counter_engine_is = λ i. record {
    slot = λ slot sensors cells. counter_slot_is slot sensors cells i;
    command = λ actuator sensors cells. counter_command_is actuator sensors cells i;
  }
