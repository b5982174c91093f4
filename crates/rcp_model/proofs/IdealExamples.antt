-- A run of the motor plan on the single processor.
-- This project's own.
use Rattle.std.proofs.Common.{◌≡◌, ◌∙◌, ap, refl, sym, ℕ, ℤ, pos, List, [], ◌∷◌}
use Rattle.std.specs.Prelude.{slice_index_or}
use Rattle.rcp_base.specs.Tables.{table}
use Rattle.rcp_model.specs.declared.plan.PlanParts.{PlanParts}
use Rattle.rcp_model.specs.Slot.{cells_after_slot, no_actuator}
use Rattle.rcp_model.specs.Uniprocessor.{initial_values, ideal_slot, ideal_cells, ideal_command}
use Rattle.rcp_model.proofs.ComputedRuns.{Engine, engine_of}
use Rattle.rcp_model.proofs.ExampleEngines.{motor_engine, motor_engine_is}
use Rattle.rcp_model.proofs.ExamplePlans.{motor_plan}

-- of a frame: the command for the first actuator, and the slot and cells after it
record IdealShown : Type 0 where
  command : ℤ
  slot : ℕ
  cells : List ℤ

module _ (plan : PlanParts) where
  -- after each of the frames with these sensor values, which follow those of the past
  abbrev ideals_shown : List (List ℤ) → List (List ℤ) → List IdealShown
  ideals_shown past [] = []
  ideals_shown past (sensors ∷ later) =
      record {
        command = ideal_command plan (slice_index_or plan.actuators 0 no_actuator) sensors past;
        slot = ideal_slot plan (sensors ∷ past);
        cells = ideal_cells plan (sensors ∷ past);
      }
      ∷ ideals_shown (sensors ∷ past) later

  -- the same with an engine that runs the slots
  module _ (engine : Engine) where
    abbrev cells_by : List (List ℤ) → List ℤ
    cells_by [] = initial_values plan.cells
    cells_by (sensors ∷ past) = engine.slot (ideal_slot plan past) sensors (cells_by past)

    abbrev ideals_by : List (List ℤ) → List (List ℤ) → List IdealShown
    ideals_by past [] = []
    ideals_by past (sensors ∷ later) =
        record {
          command = engine.command 0 sensors (cells_by (sensors ∷ past));
          slot = ideal_slot plan (sensors ∷ past);
          cells = cells_by (sensors ∷ past);
        }
        ∷ ideals_by (sensors ∷ past) later

  cells_by_own : (past : List (List ℤ)) → cells_by (engine_of plan) past ≡ ideal_cells plan past
  cells_by_own [] = refl
  cells_by_own (sensors ∷ past) = ap (cells_after_slot plan (ideal_slot plan past) sensors) (cells_by_own past)

  ideals_by_own : (past later : List (List ℤ)) → ideals_by (engine_of plan) past later ≡ ideals_shown past later
  ideals_by_own past [] = refl
  ideals_by_own past (sensors ∷ later) = λ i.
      record {
        command = (engine_of plan).command 0 sensors (cells_by_own (sensors ∷ past) i);
        slot = ideal_slot plan (sensors ∷ past);
        cells = cells_by_own (sensors ∷ past) i;
      }
      ∷ ideals_by_own (sensors ∷ past) later i

-- so the single processor does what the engine does
motor_ideals : (frames : List (List ℤ)) → ideals_shown motor_plan [] frames ≡ ideals_by motor_plan motor_engine [] frames
motor_ideals frames = sym (ideals_by_own motor_plan [] frames) ∙ ap (λ engine. ideals_by motor_plan engine [] frames) motor_engine_is

abbrev after : ℤ → ℕ → ℤ → ℤ → ℤ → IdealShown
after command slot position error sum = record { command = command; slot = slot; cells = position ∷ error ∷ sum ∷ [] }

-- the position follows the command
abbrev ten : List ℤ
ten = pos 10 ∷ []

the_position_follows_the_command : ideals_shown motor_plan [] (ten ∷ ten ∷ ten ∷ ten ∷ [])
    ≡ after (pos 10) 1 (pos 0) (pos 10) (pos 10)
    ∷ after (pos 10) 0 (pos 5) (pos 10) (pos 10)
    ∷ after (pos 15) 1 (pos 5) (pos 5) (pos 15)
    ∷ after (pos 15) 0 (pos 12) (pos 5) (pos 15)
    ∷ []
unfolding table
the_position_follows_the_command = motor_ideals (ten ∷ ten ∷ ten ∷ ten ∷ []) ∙ refl

-- and rests where there is none
no_command_moves_nothing : ideals_shown motor_plan [] ((pos 0 ∷ []) ∷ []) ≡ after (pos 0) 1 (pos 0) (pos 0) (pos 0) ∷ []
unfolding table
no_command_moves_nothing = motor_ideals ((pos 0 ∷ []) ∷ []) ∙ refl
