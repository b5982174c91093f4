-- The text of a run over a history, one frame at a time, whatever is written of a frame.
use Rattle.std.proofs.Common.{◌≡◌, ℕ, ◌+◌, ◌<◌, ◌≤◌, List, ◌∷◌, [], ◌++◌, length, take, drop, reverse, get_or, Result, ap, sym, ◌∙◌, subst, arith, append_assoc}
use Rattle.std.proofs.lemmas.List.{take_more, drop_more, drop_all, reverse-append, length-take-le, length-reverse}
use Rattle.rcp_base.specs.declared.sink.WriteError.{WriteError}
use Rattle.rcp_base.specs.Adding.{Adds, IsHalfway}
use Rattle.rcp_base.specs.States.{SinkState}
use Rattle.rcp_base.proofs.AddingLaws.{halfway_as, halfway_more}
use Rattle.rcp_model.specs.declared.plan.PlanParts.{PlanParts}
use Rattle.rcp_model.specs.FrameRows.{FrameRows}
use Rattle.rcp_model.specs.History.{History, past_of}
use Rattle.rcp_model.specs.System.{SystemState}
use Rattle.layer_stack.specs.Inputs.{IsHistoryOf}
use Rattle.layer_stack.specs.Run.{CanRun, StandsFor}
use Rattle.layer_stack.specs.declared.run.Run.{Run}
use Rattle.trace_text.specs.declared.label.Label.TheVariants as label
use Rattle.trace_text.specs.Lines.{count_line}
use Rattle.rcp_top.specs.Frames.{texts_from}

-- the frame after t frames, where it is there, and all up to it
pub past_at : (history : History) (t : ℕ) (d : FrameRows) → t < length history → past_of history (t + 1) ≡ get_or history t d ∷ past_of history t
past_at history t d lt = ap reverse (take_more history t d lt) ∙ reverse-append (take t history) (get_or history t d ∷ [])

pub past_length : (history : History) (t : ℕ) → t ≤ length history → length (past_of history t) ≡ t
past_length history t le = length-reverse (take t history) ∙ length-take-le t history le

-- what is to be written after t frames
abbrev pub rest_of_run : (FrameRows → List FrameRows → List ℕ) → History → ℕ → List ℕ
rest_of_run text history t = texts_from text (past_of history t) (drop t history) ++ count_line label.End (length history)

run_at : (text : FrameRows → List FrameRows → List ℕ) (history : History) (t : ℕ) (d : FrameRows) → t < length history
    → rest_of_run text history t ≡ text (get_or history t d) (past_of history t) ++ rest_of_run text history (t + 1)
unfolding texts_from
run_at text history t d lt =
    let past = past_of history t in
    let rows = get_or history t d in
    let rest = drop (t + 1) history in
    let last = count_line label.End (length history) in
    ap (λ frames. texts_from text past frames ++ last) (drop_more history t d lt)
    ∙ (append_assoc (text rows past) (texts_from text (rows ∷ past) rest) last
    ∙ ap (λ p. text rows past ++ (texts_from text p rest ++ last)) (sym (past_at history t d lt)))

pub run_at_end : (text : FrameRows → List FrameRows → List ℕ) (history : History) (t : ℕ) → length history ≤ t → rest_of_run text history t ≡ count_line label.End (length history)
unfolding texts_from
run_at_end text history t le =
    ap (λ frames. texts_from text (past_of history t) frames ++ count_line label.End (length history)) (drop_all t history le)

-- a run that stands for t frames can run the next one, and then stands for it
pub stands_next : {L : Type 0} (at : L → PlanParts → SystemState → Type 0) (plan : PlanParts) (old new : Run L) (history : History) (before after t : ℕ)
    → old.plan.now ≡ plan → before ≡ t → after ≡ t + 1 → t < length history → IsHistoryOf plan history → StandsFor at old (past_of history t)
    → (CanRun at old history before 1 → StandsFor at new (past_of history after)) → StandsFor at new (past_of history (t + 1))
stands_next at plan old new history before after t same was is more are stands ran =
    let OfPlan : PlanParts → Type 0 = λ p. IsHistoryOf p history in
    let Old : ℕ → Type 0 = λ k. StandsFor at old (past_of history k) in
    let New : ℕ → Type 0 = λ k. StandsFor at new (past_of history k) in
    let can : CanRun at old history before 1 =
    record { of_plan = subst OfPlan (sym same) are; more = omega (arith, was, more); stands = subst Old (sym was) stands } in
    subst New is (ran can)

-- the text of the next frame was written
pub frame_written : {T U : Type 0} {a b : SinkState} {r : Result T WriteError} {whole : List ℕ} (text : FrameRows → List FrameRows → List ℕ)
    (history : History) (t : ℕ) (d : FrameRows) (c : SinkState) (s : Result U WriteError)
    → t < length history → IsHalfway a b r (rest_of_run text history t) whole → Adds b c r s (text (get_or history t d) (past_of history t))
    → IsHalfway a c s (rest_of_run text history (t + 1)) whole
frame_written text history t d c s more so_far adds =
    halfway_more c s (text (get_or history t d) (past_of history t)) (rest_of_run text history (t + 1))
    (halfway_as _ _ (run_at text history t d more) so_far) adds
