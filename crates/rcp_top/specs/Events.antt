-- `events FILE JOURNAL first`, or `last`: the timed events of the replicas on clocks, block after block.
-- After NASA TM-104196; the text is this project's own.
use Rattle.std.specs.Prelude.{ℕ, List, [], ◌∷◌, ◌++◌, length, flat_map}
use Rattle.clocked_layer.specs.Events.{block_events}
use Rattle.event_queue.specs.Agenda.{in_turn}
use Rattle.event_queue.specs.Picker.{answers_after, picked_order}
use Rattle.event_queue.specs.declared.event.Event.{Event}
use Rattle.rcp_model.specs.declared.plan.PlanParts.{PlanParts}
use Rattle.rcp_model.specs.FrameRows.{FrameRows}
use Rattle.rcp_model.specs.History.{History}
use Rattle.rcp_model.specs.System.{state_after}
use Rattle.trace_text.specs.Lines.{event_line, frame_line}
use Rattle.rcp_top.specs.declared.form.EventOrder.{EventOrder}
use Rattle.rcp_top.specs.declared.form.EventOrder.TheVariants.{First, Last}
use Rattle.rcp_top.specs.Frames.{run_of, text_of_all}
use Rattle.rcp_top.specs.Reading.{Reading}

-- the events of the frame of these rows, behind the frames past, in the order in which these answers
-- pick among those that are due at once
abbrev pub picked_events : PlanParts → (ℕ → ℕ) → FrameRows → List FrameRows → List Event
picked_events plan answers rows past =
    picked_order (in_turn (block_events plan (state_after plan past) rows)) answers

-- the answers that are left after these frames
abbrev pub answers_left : PlanParts → (ℕ → ℕ) → List FrameRows → ℕ → ℕ
answers_left plan answers [] = answers
answers_left plan answers (rows ∷ past) =
    let left = answers_left plan answers past in
    answers_after (length (picked_events plan left rows past)) left

-- the line of frame t, and those of its events
abbrev pub block_text : ℕ → List Event → List ℕ
block_text t events = frame_line t ++ flat_map event_line events

-- the lines of the frame of these rows, behind the frames past
unfoldable pub event_frame_text : PlanParts → (ℕ → ℕ) → FrameRows → List FrameRows → List ℕ
event_frame_text plan answers rows past =
    block_text (length past) (picked_events plan (answers_left plan answers past) rows past)

-- the text of the events over a history, where a picker gives these answers
abbrev pub events_text : PlanParts → (ℕ → ℕ) → History → List ℕ
events_text plan answers = text_of_all (event_frame_text plan answers)

-- what picks the first of those that are due answers 0, and what picks the last the greatest number
abbrev pub answers_of : EventOrder → ℕ → ℕ
answers_of First = λ k. 0
answers_of Last = λ k. 4294967295

-- what is to be printed of a plan and a history, in this order
abbrev pub events_for : EventOrder → PlanParts → History → List ℕ
events_for order plan = events_text plan (answers_of order)

-- what `events FILE JOURNAL` and an order read, and the text that is then due
abbrev pub events_of : List ℕ → List ℕ → EventOrder → Reading (List ℕ)
events_of file journal order = run_of (events_for order) file journal
