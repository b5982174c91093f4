-- Under the guard `replay` prints what `ideal` prints.
use Rattle.std.proofs.Common.{◌≡◌, ℕ, zero, suc, ◌+◌, ◌<◌, Bool, true, false, not, cond, List, [], ◌∷◌, ◌++◌, length, map, codes, get_or, slice_get, Some, refl, sym, ap, ◌∙◌, subst, append-nil, inl, inr, arith}
use Rattle.std.specs.Prelude.{◌&&◌, option_map}
use Rattle.std.specs.Fmt.{decimal}
use Rattle.std.specs.List.{range_with_len}
use Rattle.std.proofs.lemmas.Bool.{cases_Bool}
use Rattle.std.proofs.lemmas.Option.{slice_get-map}
use Rattle.rcp_model.specs.declared.plan.PlanParts.{PlanParts}
use Rattle.rcp_model.specs.AtFrame.{rows_at, is_working_at, MeetsGuardAt}
use Rattle.rcp_model.specs.FrameRows.{FrameRows, is_down}
use Rattle.rcp_model.specs.Health.{is_healthy, is_untouched, is_working, MeetsGuard}
use Rattle.rcp_model.specs.History.{History, past_of, sensors_of}
use Rattle.rcp_model.specs.HistoryLaws.{HistoriesGoByFrames}
use Rattle.rcp_model.specs.Plan.{IsPlan}
use Rattle.rcp_model.specs.PlanGraph.{graph_of_plan}
use Rattle.rcp_model.specs.Slot.{no_actuator}
use Rattle.rcp_model.specs.System.{state_after}
use Rattle.rcp_model.specs.Uniprocessor.{ProcessorState, ideal_state}
use Rattle.rcp_model.specs.Walk.{HasNoWalk}
use Rattle.rcp_model.proofs.HistoryLaws.{past_more}
use Rattle.layer_stack.specs.Recovery.{MatchesIdeal, ReplicasRecover}
use Rattle.trace_text.specs.Lines.{replica_line, state_text, vote_line}
use Rattle.rcp_top.specs.Headline.{HoldsIdeal}
use Rattle.rcp_top.specs.Ideal.{ideal_text, sensors_of_history}
use Rattle.rcp_top.specs.Printed.{lines_with, begins_with, lines_of_frame}
use Rattle.rcp_top.specs.Replay.{voted_line, held_line, replay_text}
use Rattle.rcp_top.proofs.FrameLines.{at_t, ideal_vote, ideal_held, ideal_rest, actuator_numbers, replay_rest, ideal_split, replay_split, are_named, votes_are_of_frames, replicas_are_of_frames, ideals_are_of_frames}
use Rattle.rcp_top.proofs.LineShapes.{both_true, not_true, vote_begins, vote_is_no_replica, vote_is_no_ideal, replica_begins, replica_is_no_vote, ideal_begins, ideal_is_no_vote, working_line, ideal_state as ideal_bytes}

-- those of two lists of lines
with_joined : (word : List ℕ) (a b : List (List ℕ)) → lines_with word (a ++ b) ≡ lines_with word a ++ lines_with word b
with_joined word [] b = refl
with_joined word (line ∷ a) b =
    let both = lines_with word (a ++ b) in
    let some = lines_with word a in
    let behind = lines_with word b in
    elim (cases_Bool (begins_with word line)) [
      | inl there ↦
          ap (λ (t : Bool). cond t (line ∷ both) both) there ∙ ap (λ ls. line ∷ ls) (with_joined word a b)
          ∙ sym (ap (λ (t : Bool). cond t (line ∷ some) some ++ behind) there)
      | inr none ↦
          ap (λ (t : Bool). cond t (line ∷ both) both) none ∙ with_joined word a b
          ∙ sym (ap (λ (t : Bool). cond t (line ∷ some) some ++ behind) none)
    ]

-- all of the lines that a function gives, or none
mapped_all : {X : Type 0} (word : List ℕ) (line : X → List ℕ) (xs : List X) → ((x : X) → begins_with word (line x) ≡ true)
    → lines_with word (map line xs) ≡ map line xs
mapped_all word line [] are = refl
mapped_all word line (x ∷ xs) are =
    let more = lines_with word (map line xs) in
    ap (λ (t : Bool). cond t (line x ∷ more) more) (are x) ∙ ap (λ ls. line x ∷ ls) (mapped_all word line xs are)

mapped_none : {X : Type 0} (word : List ℕ) (line : X → List ℕ) (xs : List X) → ((x : X) → begins_with word (line x) ≡ false)
    → lines_with word (map line xs) ≡ []
mapped_none word line [] are = refl
mapped_none word line (x ∷ xs) are =
    let more = lines_with word (map line xs) in
    ap (λ (t : Bool). cond t (line x ∷ more) more) (are x) ∙ mapped_none word line xs are

-- the same lines by the numbers of items and by the items
by_number : {X Y : Type 0} (by : ℕ → Y) (of : X → Y) (d : X) (from : ℕ) (xs : List X)
    → ((k : ℕ) → k < length xs → by (from + k) ≡ of (get_or xs k d)) → map by (range_with_len from (length xs)) ≡ map of xs
by_number by of d from [] same = refl
by_number by of d from (x ∷ xs) same =
    let here : from ≡ from + 0 = omega arith in
    let rest = by_number by of d (from + 1) xs
    (λ k lt. let e : from + 1 + k ≡ from + suc k = omega arith in ap by e ∙ same (suc k) (omega (arith, lt))) in
    ap (λ y. y ∷ map by (range_with_len (from + 1) (length xs))) (ap by here ∙ same 0 (omega arith)) ∙ ap (λ ys. of x ∷ ys) rest

-- a line by its number
numbered : {Y : Type 0} (line : ℕ → Y) (count k : ℕ) → k < count → slice_get (map line (range_with_len 0 count)) k ≡ Some (line k)
numbered {Y = Y} line count k below =
    let e : 0 + k ≡ k = omega arith in
    slice_get-map line (range_with_len 0 count) k ∙ ap (option_map line) (in_range 0 count k below) ∙ ap (λ (x : ℕ). Some (line x)) e
  where
    in_range : (a n k : ℕ) → k < n → slice_get (range_with_len a n) k ≡ Some (a + k)
    in_range a zero k below = absurd (omega arith)
    in_range a (suc n) zero below = let e : a ≡ a + 0 = omega arith in ap (λ (x : ℕ). Some x) e
    in_range a (suc n) (suc k) below =
        let e : a + 1 + k ≡ a + suc k = omega arith in
        in_range (a + 1) n k (omega (arith, below)) ∙ ap (λ (x : ℕ). Some x) e

-- a working replica is not down
first_of_four : (a b c d : Bool) → (a && b && c && d) ≡ true → a ≡ true
first_of_four a b c d is = (both_true a b (both_true (a && b) c (both_true (a && b && c) d is).0).0).0

untouched : (plan : PlanParts) (rows : FrameRows) (replica : ℕ) → is_healthy plan rows replica ≡ true → is_untouched plan rows replica ≡ true
unfolding is_healthy
untouched plan rows replica is = first_of_four (is_untouched plan rows replica) _ _ _ is

up_if_untouched : (plan : PlanParts) (rows : FrameRows) (replica : ℕ) → is_untouched plan rows replica ≡ true → is_down rows replica ≡ false
unfolding is_untouched
up_if_untouched plan rows replica is = not_true (is_down rows replica) (first_of_four (not (is_down rows replica)) _ _ _ is)

up_if_working : (plan : PlanParts) (recovery : ℕ) (rows : FrameRows) (past : List FrameRows) (replica : ℕ) → 0 < recovery
    → is_working plan recovery (rows ∷ past) replica ≡ true → is_down rows replica ≡ false
up_if_working plan zero rows past replica some is = absurd (omega arith)
up_if_working plan (suc n) rows past replica some is = up_if_untouched plan rows replica (untouched plan rows replica (both_true _ _ is).0)

-- the `vote` lines of a frame
pub vote_lines_are : (plan : PlanParts) (recovery : ℕ) (rows : FrameRows) (past : List FrameRows)
    → lines_with (codes "vote ") (replay_rest plan recovery rows past) ≡ map (voted_line plan (rows ∷ past)) (actuator_numbers plan)
vote_lines_are plan recovery rows past =
    let word = codes "vote " in
    let votes = map (voted_line plan (rows ∷ past)) (actuator_numbers plan) in
    let replicas = range_with_len 0 plan.replicas in
    with_joined word votes (map (held_line plan recovery rows past) replicas)
    ∙ ap (λ ls. lines_with word votes ++ ls) (mapped_none word (held_line plan recovery rows past) replicas (λ p. replica_is_no_vote p _ _ _ _))
    ∙ append-nil (lines_with word votes)
    ∙ mapped_all word (voted_line plan (rows ∷ past)) (actuator_numbers plan) (λ a. vote_begins _ _)

-- they are those of `ideal` where the votes are the single processor's
votes_alike : (plan : PlanParts) (recovery : ℕ) (rows : FrameRows) (past : List FrameRows)
    → MatchesIdeal plan recovery (state_after plan (rows ∷ past)) (rows ∷ past)
    → lines_with (codes "vote ") (replay_rest plan recovery rows past) ≡ lines_with (codes "vote ") (ideal_rest plan rows past)
votes_alike plan recovery rows past matches =
    let word = codes "vote " in
    let ideal = map (ideal_vote plan rows past) plan.actuators in
    vote_lines_are plan recovery rows past
    ∙ by_number (voted_line plan (rows ∷ past)) (ideal_vote plan rows past) no_actuator 0 plan.actuators vote_is
    ∙ sym (mapped_all word (ideal_vote plan rows past) plan.actuators (λ a. vote_begins _ _))
    ∙ sym (append-nil (lines_with word ideal))
    ∙ sym (ap (λ (t : Bool). lines_with word ideal ++ cond t (ideal_held plan rows past ∷ []) []) (ideal_is_no_vote _ _))
    ∙ sym (with_joined word ideal (ideal_held plan rows past ∷ []))
  where
    vote_is : (k : ℕ) → k < length plan.actuators
        → voted_line plan (rows ∷ past) (0 + k) ≡ ideal_vote plan rows past (get_or plan.actuators k no_actuator)
    vote_is k lt =
        let e : 0 + k ≡ k = omega arith in
        ap (voted_line plan (rows ∷ past)) e
        ∙ ap (λ v. vote_line (get_or plan.actuators k no_actuator).name v) (matches.votes k lt)

-- the `replica` lines of a frame, and its `ideal` line
pub replica_lines_are : (plan : PlanParts) (recovery : ℕ) (rows : FrameRows) (past : List FrameRows)
    → lines_with (codes "replica ") (replay_rest plan recovery rows past) ≡ map (held_line plan recovery rows past) (range_with_len 0 plan.replicas)
replica_lines_are plan recovery rows past =
    let word = codes "replica " in
    let votes = map (voted_line plan (rows ∷ past)) (actuator_numbers plan) in
    let held = map (held_line plan recovery rows past) (range_with_len 0 plan.replicas) in
    with_joined word votes held
    ∙ ap (λ ls. ls ++ lines_with word held) (mapped_none word (voted_line plan (rows ∷ past)) (actuator_numbers plan) (λ a. vote_is_no_replica _ _))
    ∙ mapped_all word (held_line plan recovery rows past) (range_with_len 0 plan.replicas) (λ p. replica_begins p _ _ _ _)

ideal_alone : (plan : PlanParts) (rows : FrameRows) (past : List FrameRows)
    → lines_with (codes "ideal ") (ideal_rest plan rows past) ≡ ideal_held plan rows past ∷ []
ideal_alone plan rows past =
    let word = codes "ideal " in
    let votes = map (ideal_vote plan rows past) plan.actuators in
    let held = ideal_held plan rows past in
    with_joined word votes (held ∷ [])
    ∙ ap (λ ls. ls ++ lines_with word (held ∷ [])) (mapped_none word (ideal_vote plan rows past) plan.actuators (λ a. vote_is_no_ideal _ _))
    ∙ ap (λ (t : Bool). cond t (held ∷ []) []) (ideal_begins _ _)

-- the line of a working replica
working_is : (plan : PlanParts) (recovery : ℕ) (rows : FrameRows) (past : List FrameRows) (replica : ℕ) (state : ProcessorState) → 0 < recovery
    → (state_after plan (rows ∷ past)).replicas replica ≡ state → is_working plan recovery (rows ∷ past) replica ≡ true
    → held_line plan recovery rows past replica
    ≡ codes "replica " ++ decimal replica ++ codes " up " ++ state_text state.slot state.cells ++ codes " working yes\n"
working_is plan recovery rows past replica state some holds works =
    let up = up_if_working plan recovery rows past replica some works in
    let line : Bool → ProcessorState → Bool → List ℕ = λ down held working. replica_line replica down held.slot held.cells working in
    ap (λ (held : ProcessorState). line (is_down rows replica) held (is_working plan recovery (rows ∷ past) replica)) holds
    ∙ ap (λ (down : Bool). line down state (is_working plan recovery (rows ∷ past) replica)) up
    ∙ ap (line false state) works
    ∙ working_line replica state.slot state.cells

-- frame t of the texts of a plan and a history is ideal
pub record IsIdealFrame (plan : PlanParts) (recovery : ℕ) (history : History) (replayed ideal : List ℕ) (t : ℕ) : Type 0 where
  pub votes : lines_of_frame (codes "vote ") t replayed ≡ lines_of_frame (codes "vote ") t ideal
  pub replicas :
      (replica : ℕ) → replica < plan.replicas → is_working_at plan recovery history t replica ≡ true → HoldsIdeal replayed ideal t replica

module _ (recover : ReplicasRecover) (by_frames : HistoriesGoByFrames) where
  pub ideal_frame : (plan : PlanParts) (recovery : ℕ) (history : History) (t : ℕ)
      → IsPlan plan → 0 < recovery → HasNoWalk (graph_of_plan plan) recovery → t < length history → MeetsGuardAt plan recovery history t
      → IsIdealFrame plan recovery history (replay_text plan recovery history) (ideal_text plan (sensors_of_history history)) t
  ideal_frame plan recovery history t rules some none lt guard =
      let rows = rows_at history t in
      let past = past_of history t in
      let named = are_named plan.actuators rules.actuator_names.each in
      let judges = (by_frames plan recovery history).1 in
      let met = subst (MeetsGuard plan recovery) (past_more history t lt) ((judges.guard t lt).1 guard) in
      let matches = recover plan recovery (rows ∷ past) rules some none met in
      let state = ideal_state plan (sensors_of (rows ∷ past)) in
      record {
        votes =
            at_t (lines_of_frame (codes "vote ")) (replay_text plan recovery) (λ rows past. lines_with (codes "vote ") (replay_rest plan recovery rows past))
            (replay_split plan named (codes "vote ") votes_are_of_frames recovery) history t lt
            ∙ votes_alike plan recovery rows past matches
            ∙ sym (at_t (lines_of_frame (codes "vote ")) (λ h. ideal_text plan (sensors_of_history h)) (λ rows past. lines_with (codes "vote ") (ideal_rest plan rows past))
            (ideal_split plan named (codes "vote ") votes_are_of_frames) history t lt);
        replicas = λ replica below works.
            let works_there : is_working plan recovery (rows ∷ past) replica ≡ true =
            ap (λ frames. is_working plan recovery frames replica) (sym (past_more history t lt)) ∙ judges.working t replica lt ∙ works in
            record {
              state = state_text state.slot state.cells;
              single =
                  at_t (lines_of_frame (codes "ideal ")) (λ h. ideal_text plan (sensors_of_history h)) (λ rows past. lines_with (codes "ideal ") (ideal_rest plan rows past))
                  (ideal_split plan named (codes "ideal ") ideals_are_of_frames) history t lt
                  ∙ ideal_alone plan rows past
                  ∙ ap (λ line. line ∷ []) (ideal_bytes state.slot state.cells);
              held =
                  ap (λ lines. slice_get lines replica)
                  (at_t (lines_of_frame (codes "replica ")) (replay_text plan recovery) (λ rows past. lines_with (codes "replica ") (replay_rest plan recovery rows past))
                  (replay_split plan named (codes "replica ") replicas_are_of_frames recovery) history t lt
                  ∙ replica_lines_are plan recovery rows past)
                  ∙ numbered (held_line plan recovery rows past) plan.replicas replica below
                  ∙ ap (λ (line : List ℕ). Some line)
                  (working_is plan recovery rows past replica state some (matches.replicas replica below works_there) works_there);
            };
      }
