-- What it is for a processor to stand after frames of a plan.
-- A history here lists the sensor values of the frames so far, the newest first.
-- After NASA TM-102716.
use Rattle.std.specs.Prelude.{◌≡◌, ℤ, List, [], ◌∷◌, map, Option, Some, None}
use Rattle.rcp_model.specs.declared.plan.ActuatorRow.{ActuatorRow}
use Rattle.rcp_model.specs.declared.plan.PlanParts.{PlanParts}
use Rattle.rcp_model.specs.Uniprocessor.{ProcessorState, ideal_state, ideal_command}
use Rattle.frame_table.specs.declared.table.Table.{Table}
use Rattle.frame_table.specs.Plan.{IsOf}

-- a frame table, the slot and the cells, and the commands of the last frame, if there was one
pub record Processor : Type 0 where
  pub table : Table
  pub state : ProcessorState
  pub commands : Option (List ℤ)

-- the commands of the last of these frames, one for each actuator; none before the first
abbrev pub ideal_commands : PlanParts → List (List ℤ) → Option (List ℤ)
ideal_commands plan [] = None
ideal_commands plan (sensors ∷ past) = Some (map (λ (actuator : ActuatorRow). ideal_command plan actuator sensors past) plan.actuators)

-- after these frames a processor has the table of the plan, and the state and the commands of the single processor
pub record StandsAfter (plan : PlanParts) (past : List (List ℤ)) (uni : Processor) : Type 0 where
  pub table : IsOf plan uni.table
  pub state : uni.state ≡ ideal_state plan past
  pub commands : uni.commands ≡ ideal_commands plan past
