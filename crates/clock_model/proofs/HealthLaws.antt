-- What health says of each row of a frame.
use Rattle.std.proofs.Common.{neg_ℤ, ◌≡◌, ℕ, zero, suc, ◌+◌, ◌<◌, Bool, true, false, length, Option, Some, None, is_none, ap, pos, int_le, refl, sym, ◌∙◌, arith}
use Rattle.std.specs.List.{range_with_len, list_all}
use Rattle.std.proofs.lemmas.Bool.{and_parts, not-true, true≢false}
use Rattle.rcp_base.specs.Search.{all_below}
use Rattle.rcp_model.specs.declared.plan.PlanParts.{PlanParts}
use Rattle.rcp_model.specs.FrameRows.{FrameRows, is_down, cell_row, slot_row, act_row, lie_row, lie_slot_row, is_dropped, skew_of, rate_of, delay_of}
use Rattle.rcp_model.specs.Health.{is_untouched, keeps_time, is_faithful, is_timely, is_healthy}

pub all_below_at : (n : ℕ) (test : ℕ → Bool) → all_below n test ≡ true → (k : ℕ) → k < n → test k ≡ true
all_below_at n test h k lt = let e : k ≡ 0 + k = omega arith in ap test e ∙ from 0 n h k lt
  where
    from : (a m : ℕ) → list_all test (range_with_len a m) ≡ true → (i : ℕ) → i < m → test (a + i) ≡ true
    from a zero h i lt = absurd (omega arith)
    from a (suc m) h zero lt = let e : a + 0 ≡ a = omega arith in ap test e ∙ (and_parts _ _ h).0
    from a (suc m) h (suc i) lt = let e : a + suc i ≡ a + 1 + i = omega arith in ap test e ∙ from (a + 1) m (and_parts _ _ h).1 i (omega arith)

none_is : {X : Type 0} (o : Option X) → is_none o ≡ true → o ≡ None
none_is None h = refl
none_is (Some x) h = absurd (true≢false (sym h))

-- no row changes or drops what it sends to a receiver, and its delay is within the bounds
pub record SendsRight (plan : PlanParts) (rows : FrameRows) (sender receiver : ℕ) : Type 0 where
  pub drop : is_dropped rows sender receiver ≡ false
  pub lie_slot : lie_slot_row rows sender receiver ≡ None
  pub lie : (cell : ℕ) → cell < length plan.cells → lie_row rows sender receiver cell ≡ None
  pub delay_low : int_le plan.timing.delay_min (delay_of rows sender receiver) ≡ true
  pub delay_high : int_le (delay_of rows sender receiver) plan.timing.delay_max ≡ true

-- the replica is healthy, row by row
pub record IsHealthy (plan : PlanParts) (rows : FrameRows) (replica : ℕ) : Type 0 where
  pub up : is_down rows replica ≡ false
  pub slot : slot_row rows replica ≡ None
  pub cell : (cell : ℕ) → cell < length plan.cells → cell_row rows replica cell ≡ None
  pub act : (actuator : ℕ) → actuator < length plan.actuators → act_row rows replica actuator ≡ None
  pub to : (receiver : ℕ) → receiver < plan.replicas → SendsRight plan rows replica receiver
  pub skew_low : int_le (pos 0) (skew_of rows replica) ≡ true
  pub skew_high : int_le (skew_of rows replica) plan.timing.skew ≡ true
  pub rate_low : int_le (neg_ℤ plan.timing.drift_ppm) (rate_of rows replica) ≡ true
  pub rate_high : int_le (rate_of rows replica) plan.timing.drift_ppm ≡ true

sends_right : (plan : PlanParts) (rows : FrameRows) (sender receiver : ℕ) → is_faithful plan rows sender receiver ≡ true → is_timely plan rows sender receiver ≡ true → SendsRight plan rows sender receiver
unfolding is_faithful is_timely
sends_right plan rows sender receiver h t =
    let a = and_parts _ _ h in
    let b = and_parts _ _ a.0 in
    let d = and_parts _ _ t in
    record {
      drop = not-true _ b.0;
      lie_slot = none_is _ b.1;
      lie = λ cell lt. none_is _ (all_below_at _ (λ x. is_none (lie_row rows sender receiver x)) a.1 cell lt);
      delay_low = d.0;
      delay_high = d.1;
    }

pub healthy_facts : (plan : PlanParts) (rows : FrameRows) (replica : ℕ) → is_healthy plan rows replica ≡ true → IsHealthy plan rows replica
unfolding is_healthy is_untouched keeps_time
healthy_facts plan rows replica h =
    let timely = and_parts _ _ h in
    let faithful = and_parts _ _ timely.0 in
    let both = and_parts _ _ faithful.0 in
    let acts = and_parts _ _ both.0 in
    let cells = and_parts _ _ acts.0 in
    let ups = and_parts _ _ cells.0 in
    let e = and_parts _ _ both.1 in
    let f = and_parts _ _ e.0 in
    let g = and_parts _ _ f.0 in
    record {
      up = not-true _ ups.0;
      slot = none_is _ ups.1;
      cell = λ cell lt. none_is _ (all_below_at _ (λ x. is_none (cell_row rows replica x)) cells.1 cell lt);
      act = λ actuator lt. none_is _ (all_below_at _ (λ x. is_none (act_row rows replica x)) acts.1 actuator lt);
      to = λ q lt. sends_right plan rows replica q (all_below_at _ (is_faithful plan rows replica) faithful.1 q lt) (all_below_at _ (is_timely plan rows replica) timely.1 q lt);
      skew_low = g.0;
      skew_high = g.1;
      rate_low = f.1;
      rate_high = e.1;
    }
