-- A run goes on standing for its history.
use Rattle.std.proofs.Common.{◌≡◌, ◌↔◌, ℕ, zero, suc, ◌+◌, ◌<◌, ◌≤◌, Bool, true, false, cond, ◌&&◌, List, [], ◌∷◌, length, take, slice_get, get_or, Some, nat_le, nat_lt, min, replicate, count_by, IsTrue, refl, sym, ap, subst, ◌∙◌, arith}
use Rattle.std.specs.List.{range_with_len}
use Rattle.std.proofs.lemmas.Bool.{and_parts, and_from, lt-ltb, ltb-true, le-leb}
use Rattle.std.proofs.lemmas.Bool.Decides.{nat_tests}
use Rattle.std.proofs.lemmas.List.{get_or-take, length-reverse, length-take-le, get_or-replicate, length-replicate}
use Rattle.std.proofs.lemmas.List.Elements.{All-get_or}
use Rattle.std.proofs.lemmas.Option.{get_or_from_slice_get, slice_get_within}
use Rattle.rcp_base.specs.declared.TheConstants.{MAX_FRAMES}
use Rattle.rcp_base.specs.Filling.{Filled}
use Rattle.rcp_base.specs.Tables.{table}
use Rattle.rcp_base.proofs.FillLaws.{is_table}
use Rattle.rcp_base.proofs.CountLaws.{count_by-cons}
use Rattle.rcp_base.proofs.TableLaws.{get_or-table, length-table}
use Rattle.rcp_model.specs.declared.plan.PlanParts.{PlanParts}
use Rattle.rcp_model.specs.FrameLimits.{IsFrameOf}
use Rattle.rcp_model.specs.FrameRows.{FrameRows, no_rows}
use Rattle.rcp_model.specs.Health.{is_healthy, is_healthy_for, healthy_count, MeetsGuard}
use Rattle.rcp_model.specs.History.{History, past_of}
use Rattle.rcp_model.specs.System.{SystemState, end_of_frame, initial_state, next_state, state_after}
use Rattle.rcp_model.proofs.HistoryLaws.{past_more}
use Rattle.layer_stack.specs.declared.run.Run.{Run}
use Rattle.layer_stack.specs.Inputs.{IsHistoryOf, CanFill, sensors_after}
use Rattle.layer_stack.specs.Run.{last_rows, StandsFor, CanRun}
use Rattle.layer_stack.specs.Streaks.{streak_after, streaks_after, has_healthy_majority, AreStreaks}

streak_bound : (n s : ℕ) (fit : Bool) → streak_after n s fit ≤ n + 1
streak_bound n s true = omega arith
streak_bound n s false = omega arith

streak_more : (n s k : ℕ) → k ≤ n → nat_le (suc k) (min (s + 1) (n + 1)) ≡ nat_le k s
streak_more n s k h = grind (arith, nat_tests)

streak_step : (n s k : ℕ) (fit held : Bool) → suc k ≤ n + 1 → nat_le k s ≡ held → nat_le (suc k) (streak_after n s fit) ≡ (fit && held)
streak_step n s k true held h e = streak_more n s k (omega arith) ∙ e
streak_step n s k false held h e = grind (arith, nat_tests)

pub streaks_step : (plan : PlanParts) (bound : ℕ) (past : List FrameRows) (streaks new : List ℕ) (rows : FrameRows)
    → AreStreaks plan bound past streaks → new ≡ streaks_after plan bound streaks rows → AreStreaks plan bound (rows ∷ past) new
unfolding streaks_after
streaks_step plan bound past streaks new rows h f = record {
  size = ap length f ∙ length-table _ _;
  small = λ p lt. rw (at p lt) (streak_bound bound (get_or streaks p 0) (is_healthy plan rows p));
  healthy = counted;
}
  where
    at : (p : ℕ) → p < plan.replicas → get_or new p 0 ≡ streak_after bound (get_or streaks p 0) (is_healthy plan rows p)
    at p lt = ap (λ xs. get_or xs p 0) f ∙ get_or-table _ _ p 0 lt

    counted : (p k : ℕ) → p < plan.replicas → k ≤ bound + 1 → nat_le k (get_or new p 0) ≡ is_healthy_for plan k (rows ∷ past) p
    counted p zero lt le = le-leb _ _ (omega arith)
    counted p (suc k) lt le = ap (nat_le (suc k)) (at p lt) ∙ streak_step bound (get_or streaks p 0) k (is_healthy plan rows p) (is_healthy_for plan k past p) le (h.healthy p k lt (omega arith))

-- a count over a list is one over its places
count_places : {X : Type 0} (test : X → Bool) (good : ℕ → Bool) (d : X) (a : ℕ) (xs : List X) → ((k : ℕ) → k < length xs → test (get_or xs k d) ≡ good (a + k)) → count_by test xs ≡ count_by good (range_with_len a (length xs))
count_places test good d a [] h = refl
count_places test good d a (x ∷ xs) h =
    let first : test x ≡ good a = h 0 (omega arith) ∙ (let e : a + 0 ≡ a = omega arith in ap good e) in
    let rest = count_places test good d (a + 1) xs (λ k lt. h (suc k) (omega arith) ∙ (let e : a + suc k ≡ a + 1 + k = omega arith in ap good e)) in
    omega (arith, count_by-cons test x xs, count_by-cons good a (range_with_len (a + 1) (length xs)), ap {B = ℕ} (λ b. cond b 1 0) first, rest)

pub guard_step : (plan : PlanParts) (bound : ℕ) (past : List FrameRows) (streaks : List ℕ) (rows : FrameRows) (ok new : Bool)
    → AreStreaks plan bound (rows ∷ past) streaks → IsTrue ok ↔ MeetsGuard plan bound past → new ≡ (ok && has_healthy_majority bound streaks)
    → IsTrue new ↔ MeetsGuard plan bound (rows ∷ past)
unfolding has_healthy_majority
guard_step plan bound past streaks rows ok new h before g = (
  λ t. let parts = and_parts _ _ (sym g ∙ t) in (let m = ltb-true _ _ parts.1 in omega (arith, m, counted, size), before.0 parts.0),
  λ t. g ∙ and_from _ _ (before.1 t.1) (lt-ltb _ _ (let m = t.0 in omega (arith, m, counted, size))),
)
  where
    size : length streaks ≡ plan.replicas
    size = h.size

    counted : count_by (nat_lt bound) streaks ≡ healthy_count plan (suc bound) (rows ∷ past)
    counted = count_places (nat_lt bound) (is_healthy_for plan (suc bound) (rows ∷ past)) 0 0 streaks
        (λ k lt. h.healthy k (suc bound) (omega (arith, lt, size)) (omega arith) ∙ (let e : k ≡ 0 + k = omega arith in ap (is_healthy_for plan (suc bound) (rows ∷ past)) e))
        ∙ ap (λ n. count_by (is_healthy_for plan (suc bound) (rows ∷ past)) (range_with_len 0 n)) size

pub past_one_more : (history : History) (n : ℕ) (rows : FrameRows) → slice_get history n ≡ Some rows → past_of history (suc n) ≡ rows ∷ past_of history n
past_one_more history n rows e =
    past_more history n (slice_get_within history n rows e) ∙ ap (λ (r : FrameRows). r ∷ past_of history n) (get_or_from_slice_get history n rows _ e)

pub length-past_of : (history : History) (n : ℕ) → n ≤ length history → length (past_of history n) ≡ n
length-past_of history n h = length-reverse (take n history) ∙ length-take-le n history h

-- as many frames are done as there are
pub done_is : (plan : PlanParts) (past : List FrameRows) → (state_after plan past).done ≡ length past
unfolding initial_state next_state end_of_frame
done_is plan [] = refl
done_is plan (rows ∷ past) = ap suc (done_is plan past)

pub frame_of : (plan : PlanParts) (history : History) (n : ℕ) (rows : FrameRows) → IsHistoryOf plan history → slice_get history n ≡ Some rows → IsFrameOf plan rows
frame_of plan history n rows h e =
    let is : get_or history n rows ≡ rows = get_or_from_slice_get history n rows rows e in
    subst (IsFrameOf plan) is (All-get_or (IsFrameOf plan) history n rows (slice_get_within history n rows e) h.frames)

-- the sensors that a frame leaves are those of its rows
sensors_of_rows : (plan : PlanParts) (past : List FrameRows) → (last_rows plan past).sensors ≡ sensors_after plan past
unfolding no_rows
sensors_of_rows plan [] = refl
sensors_of_rows plan (rows ∷ past) = refl

module _ {L : Type 0} (at : L → PlanParts → SystemState → Type 0) (run : Run L) (history : History) (done : ℕ) (h : CanRun at run history done 1) where
  pub can_fill : CanFill run.plan.now history done run.input
  can_fill = record {
    history_of_plan = h.of_plan;
    more = let m = h.more in omega (arith, m);
    rows_of_plan = h.stands.rows;
    sensors = ap (λ (rows : FrameRows). rows.sensors) h.stands.input ∙ sensors_of_rows run.plan.now (past_of history done);
  }

  pub few_done : (state_after run.plan.now (past_of history done)).done < MAX_FRAMES
  few_done =
      let m = h.more in
      let f = h.of_plan.few in
      omega (arith, done_is run.plan.now (past_of history done), length-past_of history done (omega (arith, m)), m, f)

-- a run of the same plan that stands for the frames done now can run what is left
pub can_run : {L : Type 0} (at : L → PlanParts → SystemState → Type 0) (old run : Run L) (history : History) (done now count : ℕ)
    → CanRun at old history done count → run.plan ≡ old.plan → StandsFor at run (past_of history now) → now < done + count → CanRun at run history now 1
can_run at old run history done now count h e s lt = record {
  of_plan = rw e h.of_plan;
  more = let m = h.more in omega (arith, m, lt);
  stands = s;
}

-- before the first frame all have been healthy for ever
pub full_streaks : (plan : PlanParts) (bound : ℕ) (streaks : List ℕ) → streaks ≡ replicate plan.replicas (bound + 1) → AreStreaks plan bound [] streaks
full_streaks plan bound streaks e = record {
  size = ap length e ∙ length-replicate plan.replicas (bound + 1);
  small = λ p lt. let a = at p lt in omega (arith, a);
  healthy = λ p frames lt le. ap (nat_le frames) (at p lt) ∙ le-leb _ _ le ∙ sym (always frames p);
}
  where
    at : (p : ℕ) → p < plan.replicas → get_or streaks p 0 ≡ bound + 1
    at p lt = ap (λ xs. get_or xs p 0) e ∙ get_or-replicate plan.replicas p (bound + 1) 0 lt

    always : (k p : ℕ) → is_healthy_for plan k [] p ≡ true
    always zero p = refl
    always (suc k) p = refl

-- the first places of a list that was filled so far are a table
pub first_places : {X : Type 0} (n most : ℕ) (f : ℕ → X) (d : X) (old new : List X) (i : ℕ) → Filled most f d old new i → n ≤ i → n ≤ most → take n new ≡ table n f
first_places n most f d old new i h le few =
    is_table n f (take n new) d (length-take-le n new (omega (arith, h.size))) (λ k lt. get_or-take n new k d lt ∙ h.done k (omega arith))
