-- The single processor that never fails. A history here lists the sensor values of the frames so far, the newest first.
-- After NASA TM-102716.
use Rattle.std.specs.Prelude.{ℕ, ◌%◌, ℤ, List, [], ◌∷◌, length, map}
use Rattle.rcp_model.specs.declared.plan.Variable.{Variable}
use Rattle.rcp_model.specs.declared.plan.ActuatorRow.{ActuatorRow}
use Rattle.rcp_model.specs.declared.plan.PlanParts.{PlanParts}
use Rattle.rcp_model.specs.Slot.{slot_count, cells_after_slot, actuator_value}

-- the values of sensors or cells before the first frame
abbrev pub initial_values : List Variable → List ℤ
initial_values variables = map (λ (variable : Variable). variable.initial) variables

-- a slot number and the cells
pub record ProcessorState : Type 0 where
  pub slot : ℕ
  pub cells : List ℤ

-- the slot after these frames: one further with each, round the frame table
abbrev pub ideal_slot : PlanParts → List (List ℤ) → ℕ
ideal_slot plan past = length past % slot_count plan

-- the cells after these frames, each of which ran its slot over the cells before it
abbrev pub ideal_cells : PlanParts → List (List ℤ) → List ℤ
ideal_cells plan [] = initial_values plan.cells
ideal_cells plan (sensors ∷ past) = cells_after_slot plan (ideal_slot plan past) sensors (ideal_cells plan past)

-- the state after these frames
abbrev pub ideal_state : PlanParts → List (List ℤ) → ProcessorState
ideal_state plan past = record { slot = ideal_slot plan past; cells = ideal_cells plan past }

-- the command of the frame with these sensors, which follows these frames: over the cells after it
abbrev pub ideal_command : PlanParts → ActuatorRow → List ℤ → List (List ℤ) → ℤ
ideal_command plan actuator sensors past = actuator_value actuator sensors (ideal_cells plan (sensors ∷ past))
