-- `ideal FILE JOURNAL`: the run of one faultless processor, frame by frame.
-- After NASA TM-102716; the text is this project's own.
use Rattle.std.specs.Prelude.{◌≡◌, ℕ, ℤ, List, [], ◌∷◌, ◌++◌, length, map, flat_map, Option, Some}
use Rattle.rcp_model.specs.declared.plan.ActuatorRow.{ActuatorRow}
use Rattle.rcp_model.specs.declared.plan.PlanParts.{PlanParts}
use Rattle.rcp_model.specs.FrameRows.{FrameRows}
use Rattle.rcp_model.specs.History.{History}
use Rattle.rcp_model.specs.Uniprocessor.{ProcessorState, ideal_state, ideal_command}
use Rattle.fault_journal.specs.Telling.{IsJournalOf, history_in}
use Rattle.trace_text.specs.declared.label.Label.TheVariants as label
use Rattle.trace_text.specs.Lines.{count_line, frame_line, ideal_line, vote_line}
use Rattle.rcp_top.specs.declared.ideal.Ideal.{Ideal}
use Rattle.rcp_top.specs.Read.{plan_at, history_at, shown}
use Rattle.rcp_top.specs.Reading.{Reading, ◌>>=◌}

-- a line for each actuator, with its command or none
abbrev pub vote_lines : List ActuatorRow → (ActuatorRow → Option ℤ) → List ℕ
vote_lines actuators command =
    flat_map (λ (actuator : ActuatorRow). vote_line actuator.name (command actuator)) actuators

-- the lines of frame t, by the commands and the state after it
unfoldable pub frame_text :
    ℕ → List ActuatorRow → (ActuatorRow → Option ℤ) → ProcessorState → List ℕ
frame_text t actuators command state =
    frame_line t ++ (vote_lines actuators command ++ ideal_line state.slot state.cells)

-- the lines of the next frame, which has these sensors and follows the frames past
abbrev pub next_frame_text : PlanParts → List ℤ → ℕ → List (List ℤ) → List ℕ
next_frame_text plan sensors t past =
    frame_text t plan.actuators (λ actuator. Some (ideal_command plan actuator sensors past))
    (ideal_state plan (sensors ∷ past))

-- the lines of the frames with these sensors, oldest first, which follow the frames past
unfoldable pub frames_text : PlanParts → List (List ℤ) → List (List ℤ) → List ℕ
frames_text plan past [] = []
frames_text plan past (sensors ∷ frames) =
    next_frame_text plan sensors (length past) past ++ frames_text plan (sensors ∷ past) frames

-- the text of the single processor over the sensors of all frames, oldest first
unfoldable pub ideal_text : PlanParts → List (List ℤ) → List ℕ
ideal_text plan frames = frames_text plan [] frames ++ count_line label.End (length frames)

-- the sensor values of each frame
abbrev pub sensors_of_history : History → List (List ℤ)
sensors_of_history history = map (λ (rows : FrameRows). rows.sensors) history

-- what `ideal FILE JOURNAL` reads, and the text that is then due
abbrev pub ideal_of : List ℕ → List ℕ → Reading (List ℕ)
ideal_of file journal = do
  plan ← plan_at file
  history ← history_at plan journal
  shown (ideal_text plan (sensors_of_history history))

-- what was found shows this text
pub record ShowsIdeal (found : Ideal) (text : List ℕ) : Type 0 where
  pub journal : IsJournalOf found.plan found.journal
  pub is : text ≡ ideal_text found.plan (sensors_of_history (history_in found.plan found.journal))
