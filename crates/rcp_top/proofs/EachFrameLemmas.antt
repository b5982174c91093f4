-- What a replay prints of frame t.
use Rattle.std.proofs.Common.{◌≡◌, ℕ, ◌<◌, Bool, true, false, List, ◌∷◌, length, map, codes, slice_get, take, Option, Some, sym, ap, ◌∙◌, subst, inl, inr, arith}
use Rattle.std.specs.List.{range_with_len}
use Rattle.std.proofs.lemmas.Bool.{cases_Bool}
use Rattle.std.proofs.lemmas.List.{length-reverse, length-take-le}
use Rattle.rcp_model.specs.declared.plan.PlanParts.{PlanParts}
use Rattle.rcp_model.specs.AtFrame.{rows_at, is_working_at, MeetsGuardAt}
use Rattle.rcp_model.specs.FrameRows.{FrameRows, is_down}
use Rattle.rcp_model.specs.Health.{is_working, MeetsGuard}
use Rattle.rcp_model.specs.History.{History, past_of}
use Rattle.rcp_model.specs.HistoryLaws.{HistoriesGoByFrames, JudgesByFrames}
use Rattle.rcp_model.specs.System.{state_after}
use Rattle.rcp_model.proofs.HistoryLaws.{past_more}
use Rattle.trace_text.specs.Lines.{frame_guard_line, replica_line}
use Rattle.rcp_top.specs.EachFrame.{replica_line_at, ReplaysTellEachFrame}
use Rattle.rcp_top.specs.Printed.{frame_lines, lines_with, lines_of_frame}
use Rattle.rcp_top.specs.Replay.{meets_guard, voted_line, held_line, replay_text}
use Rattle.rcp_top.proofs.FrameLines.{at_t, are_named, actuator_numbers, replay_first, replay_rest, replay_split, head_split, votes_are_of_frames, replicas_are_of_frames}
use Rattle.rcp_top.proofs.GuardLemmas.{guard_is_tested}
use Rattle.rcp_top.proofs.HeadlineLemmas.{vote_lines_are, replica_lines_are}

module _ (plan : PlanParts) (recovery : ℕ) (history : History) (judges : JudgesByFrames plan recovery history) (t : ℕ) (lt : t < length history) where
  -- the test that is printed, by the guard at frame t
  tested : MeetsGuardAt plan recovery history t → meets_guard plan recovery (rows_at history t ∷ past_of history t) ≡ true
  tested guard =
      (guard_is_tested plan recovery (rows_at history t ∷ past_of history t)).1
      (subst (MeetsGuard plan recovery) (past_more history t lt) ((judges.guard t lt).1 guard))

  failed : ¬ (MeetsGuardAt plan recovery history t) → meets_guard plan recovery (rows_at history t ∷ past_of history t) ≡ false
  failed none =
      let frames = rows_at history t ∷ past_of history t in
      elim (cases_Bool (meets_guard plan recovery frames)) [
        | inl met ↦
            absurd (none ((judges.guard t lt).0
            (subst (MeetsGuard plan recovery) (sym (past_more history t lt)) ((guard_is_tested plan recovery frames).0 met))))
        | inr not ↦ not
      ]

  -- the line of a replica, by lists and by frames
  held_is : (replica : ℕ) → held_line plan recovery (rows_at history t) (past_of history t) replica ≡ replica_line_at plan recovery history t replica
  held_is replica =
      let line : List FrameRows → Bool → List ℕ = λ frames working.
      replica_line replica (is_down (rows_at history t) replica)
      ((state_after plan frames).replicas replica).slot ((state_after plan frames).replicas replica).cells working in
      let more = past_more history t lt in
      ap (line (rows_at history t ∷ past_of history t))
      (ap (λ frames. is_working plan recovery frames replica) (sym more) ∙ judges.working t replica lt)
      ∙ ap (λ frames. line frames (is_working_at plan recovery history t replica)) (sym more)

pub each_frame : HistoriesGoByFrames → ReplaysTellEachFrame
each_frame by_frames plan recovery history t rules lt =
    let judges = (by_frames plan recovery history).1 in
    let named = are_named plan.actuators rules.actuator_names.each in
    let rows = rows_at history t in
    let past = past_of history t in
    let many : length past ≡ t = length-reverse (take t history) ∙ length-take-le t history (omega arith) in
    let head = at_t (λ n text. slice_get (frame_lines text) n) (replay_text plan recovery)
    (λ rows past. Some (replay_first plan recovery rows past)) (head_split plan named recovery) history t lt in
    let line : ℕ → Bool → Option (List ℕ) = λ n guard. Some (frame_guard_line n guard) in
    let numbered = head ∙ ap (λ (n : ℕ). line n (meets_guard plan recovery (rows ∷ past))) many in
    record {
      guarded = λ guard. numbered ∙ ap (line t) (tested plan recovery history judges t lt guard);
      unguarded = λ none. numbered ∙ ap (line t) (failed plan recovery history judges t lt none);
      votes =
          at_t (lines_of_frame (codes "vote ")) (replay_text plan recovery) (λ rows past. lines_with (codes "vote ") (replay_rest plan recovery rows past))
          (replay_split plan named (codes "vote ") votes_are_of_frames recovery) history t lt
          ∙ vote_lines_are plan recovery rows past
          ∙ ap (λ frames. map (voted_line plan frames) (actuator_numbers plan)) (sym (past_more history t lt));
      replicas =
          at_t (lines_of_frame (codes "replica ")) (replay_text plan recovery) (λ rows past. lines_with (codes "replica ") (replay_rest plan recovery rows past))
          (replay_split plan named (codes "replica ") replicas_are_of_frames recovery) history t lt
          ∙ replica_lines_are plan recovery rows past
          ∙ ap (λ (held : ℕ → List ℕ). map held (range_with_len 0 plan.replicas)) (λ i replica. held_is plan recovery history judges t lt replica i);
    }
