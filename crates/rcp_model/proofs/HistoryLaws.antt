-- Frames by number, and frames in lists with the newest first.
use Rattle.std.proofs.Common.{◌≡◌, ◌+◌, ◌*◌, ◌<◌, ◌≤◌, ◌%◌, ◌↔◌, ℕ, zero, suc, Bool, true, false, pos, [], ◌∷◌, ◌++◌, length, take, reverse, count_by, refl, sym, ap, subst, ◌∙◌, arith, inl, inr}
use Rattle.std.specs.Prelude.{◌&&◌, ◌||◌, nat_lt, slice_index_or}
use Rattle.std.specs.List.{range_with_len}
use Rattle.std.proofs.lemmas.Bool.{cases_eq, cases_lt, lt-ltb, le-ltb}
use Rattle.std.proofs.lemmas.List.{take_more, reverse-append, length-reverse, length-take-le, length-map}
use Rattle.rcp_base.specs.Search.{all_below}
use Rattle.rcp_base.proofs.SearchLaws.{all_more, all_same, all_pass}
use Rattle.rcp_model.specs.declared.plan.PlanParts.{PlanParts}
use Rattle.rcp_model.specs.AtFrame.{rows_at, is_healthy_in, HasHealthyMajorityAt}
use Rattle.rcp_model.specs.FrameRows.{FrameRows, quiet_rows}
use Rattle.rcp_model.specs.Health.{is_healthy, is_healthy_for, HasHealthyMajority, MeetsGuard}
use Rattle.rcp_model.specs.History.{History, past_of, sensors_of}
use Rattle.rcp_model.specs.HistoryLaws.{StepsByFrames, JudgesByFrames}
use Rattle.rcp_model.specs.Slot.{slot_count, cells_after_slot, actuator_value, no_actuator}
use Rattle.rcp_model.specs.System.{state_after}
use Rattle.rcp_model.specs.Uniprocessor.{ideal_slot, ideal_cells}

-- one frame more
pub past_more : (history : History) (t : ℕ) → t < length history → past_of history (suc t) ≡ rows_at history t ∷ past_of history t
past_more history t lt =
    let more : take (t + 1) history ≡ take t history ++ rows_at history t ∷ [] = take_more history t (quiet_rows 0 0 0 (pos 0) []) lt in
    let n : suc t ≡ t + 1 = omega arith in
    ap (λ k. reverse (take k history)) n ∙ ap reverse more ∙ reverse-append (take t history) (rows_at history t ∷ [])

length_past : (history : History) (frames : ℕ) → frames ≤ length history → length (past_of history frames) ≡ frames
length_past history frames le = length-reverse (take frames history) ∙ length-take-le frames history le

-- the single processor and the system, a frame at a time
pub steps_by_frames : (plan : PlanParts) (history : History) → StepsByFrames plan history
steps_by_frames plan history = record {
  ideal_slot = λ frames lt. slot_of frames (omega arith);
  ideal_start = refl;
  ideal_cells = λ t lt.
      ap (λ past. ideal_cells plan (sensors_of past)) (past_more history t lt)
      ∙ ap (λ (slot : ℕ). cells_after_slot plan slot (rows_at history t).sensors (ideal_cells plan (sensors_of (past_of history t)))) (slot_of t (omega arith));
  system_start = refl;
  system_step = λ t lt. ap (state_after plan) (past_more history t lt);
  command = λ t actuator lt.
      ap (λ past. actuator_value (slice_index_or plan.actuators actuator no_actuator) (rows_at history t).sensors (ideal_cells plan (sensors_of past)))
      (sym (past_more history t lt));
}
  where
    slot_of : (frames : ℕ) → frames ≤ length history → ideal_slot plan (sensors_of (past_of history frames)) ≡ frames % slot_count plan
    slot_of frames le =
        ap (λ (n : ℕ). n % slot_count plan)
        (length-map (past_of history frames) (λ (rows : FrameRows). rows.sensors) ∙ length_past history frames le)

and_swap : (a b : Bool) → (a && b) ≡ (b && a)
and_swap true true = refl
and_swap true false = refl
and_swap false true = refl
and_swap false false = refl

-- a frame is among the last so many and one of some frames and one where it is among the last so many of them
one_more_of_both : (frame last t : ℕ) → nat_lt (frame + suc last) (suc t) ≡ nat_lt (frame + last) t
one_more_of_both frame last t =
    elim (cases_lt (frame + last) t) [
      | inl less ↦ lt-ltb _ _ (omega arith) ∙ sym (lt-ltb _ _ less)
      | inr more ↦ le-ltb _ _ (omega arith) ∙ sym (le-ltb _ _ more)
    ]

module _ (plan : PlanParts) (history : History) where
  -- healthy in the last so many frames, by number and by list
  pub healthy_by_frames : (last frames replica : ℕ) → frames ≤ length history
      → is_healthy_for plan last (past_of history frames) replica ≡ is_healthy_in plan history last frames replica
  healthy_by_frames zero frames replica le =
      sym (all_pass frames (λ frame. nat_lt (frame + zero) frames || is_healthy plan (rows_at history frame) replica)
      (λ frame lt. ap (λ b. b || is_healthy plan (rows_at history frame) replica) (lt-ltb (frame + zero) frames (omega arith))))
  healthy_by_frames (suc last) zero replica le = refl
  healthy_by_frames (suc last) (suc t) replica le =
      ap (λ past. is_healthy_for plan (suc last) past replica) (past_more history t (omega arith))
      ∙ ap (λ b. is_healthy plan (rows_at history t) replica && b) (healthy_by_frames last t replica (omega arith))
      ∙ and_swap (is_healthy plan (rows_at history t) replica) (is_healthy_in plan history last t replica)
      ∙ ap (λ b. b && is_healthy plan (rows_at history t) replica)
      (all_same t _ _ (λ frame lt. ap (λ b. b || is_healthy plan (rows_at history frame) replica) (sym (one_more_of_both frame last t))))
      ∙ ap (λ b. all_below t (λ frame. nat_lt (frame + suc last) (suc t) || is_healthy plan (rows_at history frame) replica) && b)
      (sym (ap (λ b. b || is_healthy plan (rows_at history t) replica) (le-ltb (t + suc last) (suc t) (omega arith))))
      ∙ sym (all_more t (λ frame. nat_lt (frame + suc last) (suc t) || is_healthy plan (rows_at history frame) replica))

  majority_by_frames : (recovery t : ℕ) → t < length history
      → HasHealthyMajority plan recovery (past_of history (suc t)) ≡ HasHealthyMajorityAt plan recovery history t
  majority_by_frames recovery t lt =
      ap (λ (healthy : ℕ → Bool). plan.replicas < 2 * count_by healthy (range_with_len 0 plan.replicas))
      (λ i replica. healthy_by_frames (suc recovery) (suc t) replica (omega arith) i)

  -- the guard, frame by frame
  pub guard_by_frames : (recovery frames : ℕ) → frames ≤ length history
      → MeetsGuard plan recovery (past_of history frames) ↔ ((t : ℕ) → t < frames → HasHealthyMajorityAt plan recovery history t)
  guard_by_frames recovery zero le = (λ _ t lt. absurd (omega arith), λ _. tt)
  guard_by_frames recovery (suc t) le =
      let earlier = guard_by_frames recovery t (omega arith) in
      let here = majority_by_frames recovery t (omega arith) in
      let more = past_more history t (omega arith) in (
        λ guard u lt.
            let now = subst (MeetsGuard plan recovery) more guard in
            elim (cases_eq u t) [
              | inl e ↦ subst (HasHealthyMajorityAt plan recovery history) (sym e)
                  (subst (λ (P : Type 0). P) here (subst (HasHealthyMajority plan recovery) (sym more) now.0))
              | inr ne ↦ earlier.0 now.1 u (omega arith)
            ],
        λ each.
            subst (MeetsGuard plan recovery) (sym more) (
              subst (HasHealthyMajority plan recovery) more (subst (λ (P : Type 0). P) (sym here) (each t (omega arith))),
              earlier.1 (λ u lt. each u (omega arith)),
            ),
      )

pub judges_by_frames : (plan : PlanParts) (recovery : ℕ) (history : History) → JudgesByFrames plan recovery history
judges_by_frames plan recovery history = record {
  working = λ t replica lt. healthy_by_frames plan history recovery (suc t) replica (omega arith);
  guard = λ t lt. guard_by_frames plan history recovery (suc t) (omega arith);
}
