-- The text of the frames of a history, one frame at a time.
use Rattle.std.proofs.Common.{◌≡◌, ℕ, ℤ, ◌+◌, ◌<◌, ◌≤◌, List, [], ◌∷◌, ◌++◌, length, take, drop, reverse, get_or, Result, refl, ap, sym, ◌∙◌, subst, arith, append_assoc}
use Rattle.std.proofs.lemmas.List.{take_more, drop_more, drop_all, reverse-append, length-take-le, length-reverse}
use Rattle.rcp_base.specs.declared.sink.WriteError.{WriteError}
use Rattle.rcp_base.specs.Adding.{Adds, IsHalfway}
use Rattle.rcp_base.specs.States.{SinkState}
use Rattle.rcp_base.proofs.AddingLaws.{halfway_as, halfway_more}
use Rattle.rcp_model.specs.declared.plan.PlanParts.{PlanParts}
use Rattle.trace_text.specs.declared.label.Label.TheVariants as label
use Rattle.trace_text.specs.Lines.{count_line}
use Rattle.uniproc_layer.specs.Uni.{Processor, StandsAfter}
use Rattle.rcp_top.specs.Ideal.{frames_text, ideal_text, next_frame_text}

-- the first t of these, the newest first
abbrev pub past_frames : {X : Type 0} → List X → ℕ → List X
past_frames frames t = reverse (take t frames)

pub past_more : {X : Type 0} (frames : List X) (t : ℕ) (x : X) → t < length frames → x ≡ get_or frames t x → past_frames frames (t + 1) ≡ x ∷ past_frames frames t
past_more {X = X} frames t x lt is =
    let P : X → Type 0 = λ y. past_frames frames (t + 1) ≡ y ∷ past_frames frames t in
    subst P (sym is) (ap reverse (take_more frames t x lt) ∙ reverse-append (take t frames) (get_or frames t x ∷ []))

past_length : (frames : List (List ℤ)) (t : ℕ) → t ≤ length frames → length (past_frames frames t) ≡ t
past_length frames t le = length-reverse (take t frames) ∙ length-take-le t frames le

-- what is to be written after t frames
abbrev pub rest_of : PlanParts → List (List ℤ) → ℕ → List ℕ
rest_of plan frames t = frames_text plan (past_frames frames t) (drop t frames) ++ count_line label.End (length frames)

pub rest_at_start : (plan : PlanParts) (frames : List (List ℤ)) → rest_of plan frames 0 ≡ ideal_text plan frames
unfolding ideal_text
rest_at_start plan frames = refl

pub rest_at : (plan : PlanParts) (frames : List (List ℤ)) (t : ℕ) (sensors : List ℤ) → t < length frames → sensors ≡ get_or frames t sensors
    → rest_of plan frames t ≡ next_frame_text plan sensors t (past_frames frames t) ++ rest_of plan frames (t + 1)
unfolding frames_text
rest_at plan frames t sensors lt is =
    let past = past_frames frames t in
    let rest = drop (t + 1) frames in
    let left : drop t frames ≡ sensors ∷ rest = drop_more frames t sensors lt ∙ ap (λ x. x ∷ rest) (sym is) in
    ap (λ xs. frames_text plan past xs ++ count_line label.End (length frames)) left
    ∙ (ap (λ n. (next_frame_text plan sensors n past ++ frames_text plan (sensors ∷ past) rest) ++ count_line label.End (length frames)) (past_length frames t (omega (arith, lt)))
    ∙ (append_assoc (next_frame_text plan sensors t past) (frames_text plan (sensors ∷ past) rest) (count_line label.End (length frames))
    ∙ ap (λ p. next_frame_text plan sensors t past ++ (frames_text plan p rest ++ count_line label.End (length frames))) (sym (past_more frames t sensors lt is))))

pub rest_at_end : (plan : PlanParts) (frames : List (List ℤ)) (t : ℕ) → length frames ≤ t → rest_of plan frames t ≡ count_line label.End (length frames)
unfolding frames_text
rest_at_end plan frames t le = ap (λ xs. frames_text plan (past_frames frames t) xs ++ count_line label.End (length frames)) (drop_all t frames le)

-- a processor after one frame more
pub stands_after_next : (plan : PlanParts) (frames : List (List ℤ)) (uni : Processor) (t : ℕ) (sensors : List ℤ) → t < length frames → sensors ≡ get_or frames t sensors
    → StandsAfter plan (sensors ∷ past_frames frames t) uni → StandsAfter plan (past_frames frames (t + 1)) uni
stands_after_next plan frames uni t sensors lt is stands =
    let P : List (List ℤ) → Type 0 = λ past. StandsAfter plan past uni in subst P (sym (past_more frames t sensors lt is)) stands

-- one frame more was written
pub frame_more : {T U : Type 0} {a b : SinkState} {r : Result T WriteError} {whole : List ℕ} (plan : PlanParts) (frames : List (List ℤ)) (t : ℕ) (sensors : List ℤ)
    (c : SinkState) (s : Result U WriteError) → t < length frames → sensors ≡ get_or frames t sensors → IsHalfway a b r (rest_of plan frames t) whole
    → Adds b c r s (next_frame_text plan sensors t (past_frames frames t)) → IsHalfway a c s (rest_of plan frames (t + 1)) whole
frame_more plan frames t sensors c s lt is so_far adds =
    halfway_more c s (next_frame_text plan sensors t (past_frames frames t)) (rest_of plan frames (t + 1))
    (halfway_as _ _ (rest_at plan frames t sensors lt is) so_far) adds
