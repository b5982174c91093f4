-- The events of a frame that a run has done, the answers that are left, and their lines.
use Rattle.std.proofs.Common.{◌≡◌, ℕ, ◌+◌, ◌<◌, List, length, get_or, slice_get, Option, Some, IfSome, Result, ap, ap₂, sym, ◌∙◌, subst, arith}
use Rattle.std.proofs.lemmas.List.Elements.{All-get_or}
use Rattle.std.proofs.lemmas.Option.{slice_get-get_or}
use Rattle.rcp_base.specs.declared.sink.WriteError.{WriteError}
use Rattle.rcp_base.specs.Adding.{Adds, IsHalfway}
use Rattle.rcp_base.specs.States.{SinkState}
use Rattle.clocked_layer.specs.Stepped.{Mail, Rests, RestsAt}
use Rattle.clocked_layer.specs.Timed.{IsPickedBy, RestsAfterLog}
use Rattle.clocked_layer.specs.declared.timed.Timed.{Timed}
use Rattle.event_queue.specs.Picker.{answers_after}
use Rattle.event_queue.specs.declared.event.Event.{Event}
use Rattle.rcp_model.specs.declared.plan.PlanParts.{PlanParts}
use Rattle.rcp_model.specs.FrameLimits.{IsFrameOf}
use Rattle.rcp_model.specs.FrameRows.{FrameRows}
use Rattle.rcp_model.specs.History.{History, past_of}
use Rattle.rcp_model.specs.System.{SystemState, state_after}
use Rattle.layer_stack.specs.Inputs.{IsHistoryOf}
use Rattle.layer_stack.specs.Run.{CanRun, StandsFor}
use Rattle.layer_stack.specs.declared.run.Run.{Run}
use Rattle.rcp_top.specs.Events.{answers_left, block_text, event_frame_text, picked_events}
use Rattle.rcp_top.proofs.RunLemmas.{frame_written, past_at, past_length, rest_of_run}

-- the events of frame t, with the answers that are left before it
abbrev pub events_at : PlanParts → (ℕ → ℕ) → History → ℕ → FrameRows → List Event
events_at plan answers history t d =
    picked_events plan (answers_left plan answers (past_of history t)) (get_or history t d) (past_of history t)

-- a picker that told its answers took them in turn
module _ (told later : Option (ℕ → ℕ)) (plan : PlanParts) (answers : ℕ → ℕ) (history : History) (t : ℕ) (d : FrameRows) (log : List Event)
    (is : told ≡ Some (answers_left plan answers (past_of history t)))
    (picked : IsPickedBy told later plan (state_after plan (past_of history t)) (get_or history t d) log) where
  log_is : log ≡ events_at plan answers history t d
  log_is =
      let Order : Option (ℕ → ℕ) → Type 0 = λ said. IfSome said (λ left. log ≡ picked_events plan left (get_or history t d) (past_of history t)) in
      subst Order is picked.order

  pub answers_next : t < length history → later ≡ Some (answers_left plan answers (past_of history (t + 1)))
  answers_next more =
      let left = answers_left plan answers (past_of history t) in
      let Later : Option (ℕ → ℕ) → Type 0 = λ said. IfSome said (λ left. later ≡ Some (answers_after (length log) left)) in
      subst Later is picked.later
      ∙ ap (λ (events : List Event). Some (answers_after (length events) left)) log_is
      ∙ ap (λ (past : List FrameRows). Some (answers_left plan answers past)) (sym (past_at history t d more))

  pub block_written : {T U : Type 0} {a b : SinkState} {r : Result T WriteError} {whole : List ℕ} (c : SinkState) (s : Result U WriteError)
      → t < length history → IsHalfway a b r (rest_of_run (event_frame_text plan answers) history t) whole → Adds b c r s (block_text t log)
      → IsHalfway a c s (rest_of_run (event_frame_text plan answers) history (t + 1)) whole
  unfolding event_frame_text
  block_written {U = U} {b = b} {r = r} c s more so_far adds =
      let P : List ℕ → Type 0 = λ text. Adds {U = U} b c r s text in
      frame_written (event_frame_text plan answers) history t d c s more so_far
      (subst P (ap₂ block_text (sym (past_length history t (omega (arith, more)))) log_is) adds)

-- the frame of a run that stood for t frames was picked
pub picked_next : {B : Type 0} (rests : B → Rests) (told : B → Option (ℕ → ℕ)) (log_of : B → List Event) (plan : PlanParts) (run : Run (Timed B)) (layer : Timed B)
    (history : History) (before t : ℕ) → run.plan.now ≡ plan → before ≡ t → t < length history → IsHistoryOf plan history
    → StandsFor (λ timed. RestsAt (rests timed.block)) run (past_of history t)
    → ((rows : FrameRows) → CanRun (λ timed. RestsAt (rests timed.block)) run history before 1 → slice_get history before ≡ Some rows
    → (p : PlanParts) (state : SystemState) (mail : Mail) → rests run.layer.block p state mail → IsFrameOf p rows
    → RestsAfterLog (rests layer.block) p state rows mail (log_of layer.block)
    × IsPickedBy (told run.layer.block) (told layer.block) p state rows (log_of layer.block))
    → IsPickedBy (told run.layer.block) (told layer.block) plan (state_after plan (past_of history t)) (get_or history t run.input) (log_of layer.block)
picked_next {B = B} rests told log_of plan run layer history before t same was more are stands went =
    let at : Timed B → PlanParts → SystemState → Type 0 = λ timed. RestsAt (rests timed.block) in
    let rows = get_or history t run.input in
    let OfPlan : PlanParts → Type 0 = λ p. IsHistoryOf p history in
    let Stands : ℕ → Type 0 = λ k. StandsFor at run (past_of history k) in
    let Held : ℕ → Type 0 = λ k. slice_get history k ≡ Some rows in
    let Rests : PlanParts → Type 0 = λ p. (mail : Mail) × rests run.layer.block p (state_after p (past_of history t)) mail in
    let can : CanRun at run history before 1 = record { of_plan = subst OfPlan (sym same) are; more = omega (arith, was, more); stands = subst Stands (sym was) stands } in
    let held = subst Held (sym was) (slice_get-get_or history t run.input more) in
    let rest = subst Rests same stands.at in
    let of_plan = All-get_or (IsFrameOf plan) history t run.input more are.frames in
    (went rows can held plan (state_after plan (past_of history t)) rest.0 rest.1 of_plan).1
