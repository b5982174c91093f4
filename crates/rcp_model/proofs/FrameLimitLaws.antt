-- Rows stay within the limits of a journal when one is written that is, and when all but the sensors go.
use Rattle.std.proofs.Common.{◌≡◌, ◌≢◌, ℕ, ◌+◌, ◌*◌, ◌<◌, ◌==◌, Bool, true, false, ℤ, pos, List, length, get_or, replicate, Option, None, Some, refl, sym, ap, subst, ◌∙◌, arith, inl, inr}
use Rattle.std.specs.Prelude.{◌&&◌, nat_lt, if◌then◌else◌}
use Rattle.std.proofs.lemmas.Int.{ints}
use Rattle.std.proofs.lemmas.Bool.{cases_Bool, cases_lt, cond-true, cond-false, le-ltb, eqb-true}
use Rattle.std.proofs.lemmas.List.{get_or-replicate, get_or_past, length-replicate}
use Rattle.std.proofs.lemmas.Option.{none-some, same_Some}
use Rattle.rcp_model.specs.declared.plan.PlanParts.{PlanParts}
use Rattle.rcp_model.specs.FrameLimits.{IsWithin, IsDelayOf, AreWithinLimits}
use Rattle.rcp_model.specs.FrameRows.{FrameRows, AreTables, no_rows, entry_at, slot_row, lie_row, lie_slot_row, is_dropped, skew_of, rate_of, delay_of, quiet_rows}
use Rattle.rcp_model.specs.RowLaws.{RowsTold, told_of, at_one, at_pair}
use Rattle.rcp_model.specs.RowWrites.{with_sensor, with_down, with_slot, with_cell, with_act, with_lie_slot, with_drop, with_skew, with_rate, with_delay, with_lie, cleared}
use Rattle.rcp_model.specs.Slot.{slot_count}
use Rattle.rcp_model.specs.TimingRules.{AreInRange, KeepsRules}
use Rattle.rcp_model.proofs.RowLaws.{each_row}

-- what limits say, of all that rows tell
pub record IsUntouchedTold (delay_min : ℤ) (told : RowsTold) (replica : ℕ) : Type 0 where
  pub lie : (cell : ℕ) → told.lie replica replica cell ≡ None
  pub lie_slot : told.lie_slot replica replica ≡ None
  pub drop : told.dropped replica replica ≡ false
  pub delay : told.delay replica replica ≡ delay_min

pub record AreToldWithin (plan : PlanParts) (delay_min : ℤ) (told : RowsTold) : Type 0 where
  pub slot : (replica slot : ℕ) → told.slot replica ≡ Some slot → slot < slot_count plan
  pub lie_slot : (sender receiver slot : ℕ) → told.lie_slot sender receiver ≡ Some slot → slot < slot_count plan
  pub skew : (replica : ℕ) → IsWithin plan.timing.skew_limit (told.skew replica)
  pub rate : (replica : ℕ) → IsWithin plan.timing.drift_limit_ppm (told.rate replica)
  pub delay : (sender receiver : ℕ) → IsDelayOf plan (told.delay sender receiver)
  pub own : (replica : ℕ) → IsUntouchedTold delay_min told replica

pub told_within : (plan : PlanParts) (rows : FrameRows) → AreWithinLimits plan rows → AreToldWithin plan rows.delay_min (told_of rows)
told_within plan rows h = record {
  slot = h.slot;
  lie_slot = h.lie_slot;
  skew = h.skew;
  rate = h.rate;
  delay = h.delay;
  own = λ p. record { lie = (h.own p).lie; lie_slot = (h.own p).lie_slot; drop = (h.own p).drop; delay = (h.own p).delay };
}

pub within_told : (plan : PlanParts) (rows : FrameRows) → AreToldWithin plan rows.delay_min (told_of rows) → AreWithinLimits plan rows
within_told plan rows h = record {
  slot = h.slot;
  lie_slot = h.lie_slot;
  skew = h.skew;
  rate = h.rate;
  delay = h.delay;
  own = λ p. record { lie = (h.own p).lie; lie_slot = (h.own p).lie_slot; drop = (h.own p).drop; delay = (h.own p).delay };
}

-- a property of each value of a function stays when one more value has it
one_kept : {X : Type 0} (P : X → Type 0) (f : ℕ → X) (place : ℕ) (value : X) → P value → ((k : ℕ) → P (f k)) → (k : ℕ) → P (at_one f place value k)
one_kept P f place value new old k = elim (cases_Bool (k == place)) [
  | inl t ↦ subst P (sym (cond-true _ value (f k) t)) new
  | inr e ↦ subst P (sym (cond-false _ value (f k) e)) (old k)
]

pair_kept : {X : Type 0} (P : X → Type 0) (f : ℕ → ℕ → X) (row column : ℕ) (value : X) → P value → ((r c : ℕ) → P (f r c)) → (r c : ℕ) → P (at_pair f row column value r c)
pair_kept P f row column value new old r c = elim (cases_Bool ((r == row) && (c == column))) [
  | inl t ↦ subst P (sym (cond-true _ value (f r c) t)) new
  | inr e ↦ subst P (sym (cond-false _ value (f r c) e)) (old r c)
]

-- a value at a pair of two numbers is at no pair of a number with itself
not_itself : (p q r : ℕ) → p ≢ q → ((r == p) && (r == q)) ≡ false
not_itself p q r ne = elim (cases_Bool ((r == p) && (r == q))) [
  | inl t ↦ absurd (ne (sym (eqb-true r p (first (r == p) (r == q) t)) ∙ eqb-true r q (second (r == p) (r == q) t)))
  | inr f ↦ f
]
  where
    first : (a b : Bool) → (a && b) ≡ true → a ≡ true
    first true b e = refl
    first false b e = e

    second : (a b : Bool) → (a && b) ≡ true → b ≡ true
    second true b e = e
    second false true e = refl
    second false false e = e

abbrev IsSlotBelow : PlanParts → Option ℕ → Type 0
IsSlotBelow plan said = (slot : ℕ) → said ≡ Some slot → slot < slot_count plan

slot_below : (plan : PlanParts) (slot : ℕ) → slot < slot_count plan → IsSlotBelow plan (Some slot)
slot_below plan slot lt other e = subst (λ n. n < slot_count plan) (same_Some slot other e) lt

module _ (plan : PlanParts) (rows : FrameRows) (tables : AreTables rows) (h : AreWithinLimits plan rows) where
  -- told after a row more, it is the same of what rows tell
  by_told : (new : FrameRows) (said : RowsTold) → told_of new ≡ said → new.delay_min ≡ rows.delay_min
      → AreToldWithin plan rows.delay_min said → AreWithinLimits plan new
  by_told new said is same within =
      within_told plan new
      (subst (λ (told : RowsTold). AreToldWithin plan new.delay_min told) (sym is)
      (subst (λ (d : ℤ). AreToldWithin plan d said) (sym same) within))

  before : AreToldWithin plan rows.delay_min (told_of rows)
  before = told_within plan rows h

  -- replicas that no row touches by itself are so where lies, slots, drops and delays are as before
  own_before : (replica : ℕ) → IsUntouchedTold rows.delay_min (told_of rows) replica
  own_before = before.own

  pub sensor_within : (sensor : ℕ) (value : ℤ) → AreWithinLimits plan (with_sensor rows sensor value)
  unfolding with_sensor
  sensor_within sensor value = by_told _ _ ((each_row rows tables).sensor sensor value) refl (record {
    slot = before.slot;
    lie_slot = before.lie_slot;
    skew = before.skew;
    rate = before.rate;
    delay = before.delay;
    own = λ q. record { lie = (own_before q).lie; lie_slot = (own_before q).lie_slot; drop = (own_before q).drop; delay = (own_before q).delay };
  })

  pub down_within : (p : ℕ) → p < rows.replicas → AreWithinLimits plan (with_down rows p)
  unfolding with_down
  down_within p a = by_told _ _ ((each_row rows tables).down p a) refl (record {
    slot = before.slot;
    lie_slot = before.lie_slot;
    skew = before.skew;
    rate = before.rate;
    delay = before.delay;
    own = λ q. record { lie = (own_before q).lie; lie_slot = (own_before q).lie_slot; drop = (own_before q).drop; delay = (own_before q).delay };
  })

  pub slot_within : (p slot : ℕ) → p < rows.replicas → slot < slot_count plan → AreWithinLimits plan (with_slot rows p slot)
  unfolding with_slot
  slot_within p slot a lt = by_told _ _ ((each_row rows tables).slot p slot a) refl (record {
    slot = one_kept (IsSlotBelow plan) (slot_row rows) p (Some slot) (slot_below plan slot lt) h.slot;
    lie_slot = before.lie_slot;
    skew = before.skew;
    rate = before.rate;
    delay = before.delay;
    own = λ q. record { lie = (own_before q).lie; lie_slot = (own_before q).lie_slot; drop = (own_before q).drop; delay = (own_before q).delay };
  })

  pub cell_within : (p c : ℕ) (x : ℤ) → p < rows.replicas → c < rows.cells → AreWithinLimits plan (with_cell rows p c x)
  unfolding with_cell
  cell_within p c x a b = by_told _ _ ((each_row rows tables).cell p c x a b) refl (record {
    slot = before.slot;
    lie_slot = before.lie_slot;
    skew = before.skew;
    rate = before.rate;
    delay = before.delay;
    own = λ q. record { lie = (own_before q).lie; lie_slot = (own_before q).lie_slot; drop = (own_before q).drop; delay = (own_before q).delay };
  })

  pub act_within : (p n : ℕ) (x : ℤ) → p < rows.replicas → n < rows.actuators → AreWithinLimits plan (with_act rows p n x)
  unfolding with_act
  act_within p n x a b = by_told _ _ ((each_row rows tables).act p n x a b) refl (record {
    slot = before.slot;
    lie_slot = before.lie_slot;
    skew = before.skew;
    rate = before.rate;
    delay = before.delay;
    own = λ q. record { lie = (own_before q).lie; lie_slot = (own_before q).lie_slot; drop = (own_before q).drop; delay = (own_before q).delay };
  })

  pub skew_within : (p : ℕ) (x : ℤ) → p < rows.replicas → IsWithin plan.timing.skew_limit x → AreWithinLimits plan (with_skew rows p x)
  unfolding with_skew
  skew_within p x a within = by_told _ _ ((each_row rows tables).skew p x a) refl (record {
    slot = before.slot;
    lie_slot = before.lie_slot;
    rate = before.rate;
    delay = before.delay;
    skew = one_kept (IsWithin plan.timing.skew_limit) (skew_of rows) p x within h.skew;
    own = λ q. record { lie = (own_before q).lie; lie_slot = (own_before q).lie_slot; drop = (own_before q).drop; delay = (own_before q).delay };
  })

  pub rate_within : (p : ℕ) (x : ℤ) → p < rows.replicas → IsWithin plan.timing.drift_limit_ppm x → AreWithinLimits plan (with_rate rows p x)
  unfolding with_rate
  rate_within p x a within = by_told _ _ ((each_row rows tables).rate p x a) refl (record {
    slot = before.slot;
    lie_slot = before.lie_slot;
    skew = before.skew;
    delay = before.delay;
    rate = one_kept (IsWithin plan.timing.drift_limit_ppm) (rate_of rows) p x within h.rate;
    own = λ q. record { lie = (own_before q).lie; lie_slot = (own_before q).lie_slot; drop = (own_before q).drop; delay = (own_before q).delay };
  })

  pub lie_slot_within : (p q slot : ℕ) → p < rows.replicas → q < rows.replicas → p ≢ q → slot < slot_count plan → AreWithinLimits plan (with_lie_slot rows p q slot)
  unfolding with_lie_slot
  lie_slot_within p q slot a b ne lt = by_told _ _ ((each_row rows tables).lie_slot p q slot a b) refl (record {
    slot = before.slot;
    skew = before.skew;
    rate = before.rate;
    delay = before.delay;
    lie_slot = pair_kept (IsSlotBelow plan) (lie_slot_row rows) p q (Some slot) (slot_below plan slot lt) h.lie_slot;
    own = λ r. record {
      lie = (own_before r).lie;
      drop = (own_before r).drop;
      delay = (own_before r).delay;
      lie_slot = cond-false _ (Some slot) (lie_slot_row rows r r) (not_itself p q r ne) ∙ (own_before r).lie_slot;
    };
  })

  pub drop_within : (p q : ℕ) → p < rows.replicas → q < rows.replicas → p ≢ q → AreWithinLimits plan (with_drop rows p q)
  unfolding with_drop
  drop_within p q a b ne = by_told _ _ ((each_row rows tables).dropped p q a b) refl (record {
    slot = before.slot;
    lie_slot = before.lie_slot;
    skew = before.skew;
    rate = before.rate;
    delay = before.delay;
    own = λ r. record {
      lie = (own_before r).lie;
      lie_slot = (own_before r).lie_slot;
      delay = (own_before r).delay;
      drop = cond-false _ true (is_dropped rows r r) (not_itself p q r ne) ∙ (own_before r).drop;
    };
  })

  pub delay_within : (p q : ℕ) (x : ℤ) → p < rows.replicas → q < rows.replicas → p ≢ q → IsDelayOf plan x → AreWithinLimits plan (with_delay rows p q x)
  unfolding with_delay
  delay_within p q x a b ne within = by_told _ _ ((each_row rows tables).delay p q x a b) refl (record {
    slot = before.slot;
    lie_slot = before.lie_slot;
    skew = before.skew;
    rate = before.rate;
    delay = pair_kept (IsDelayOf plan) (delay_of rows) p q x within h.delay;
    own = λ r. record {
      lie = (own_before r).lie;
      lie_slot = (own_before r).lie_slot;
      drop = (own_before r).drop;
      delay = cond-false _ x (delay_of rows r r) (not_itself p q r ne) ∙ (own_before r).delay;
    };
  })

  pub lie_within : (p q c : ℕ) (x : ℤ) → p < rows.replicas → q < rows.replicas → c < rows.cells → p ≢ q → AreWithinLimits plan (with_lie rows p q c x)
  unfolding with_lie
  lie_within p q c x a b d ne = by_told _ _ ((each_row rows tables).lie p q c x a b d) refl (record {
    slot = before.slot;
    lie_slot = before.lie_slot;
    skew = before.skew;
    rate = before.rate;
    delay = before.delay;
    own = λ r. record {
      lie_slot = (own_before r).lie_slot;
      drop = (own_before r).drop;
      delay = (own_before r).delay;
      lie = λ k. ap (λ t. if t && (k == c) then Some x else lie_row rows r r k) (not_itself p q r ne) ∙ (own_before r).lie k;
    };
  })

-- a list of one value has it everywhere, as what stands past its end
all_one : {X : Type 0} (n k : ℕ) (x : X) → get_or (replicate n x) k x ≡ x
all_one n k x = elim (cases_lt k n) [ inl lt ↦ get_or-replicate n k x x lt | inr past ↦ get_or_past (replicate n x) k x (omega (arith, length-replicate n x)) ]

one_entry : {X : Type 0} (columns n r c : ℕ) (x : X) → entry_at columns (replicate n x) r c x ≡ x
unfolding entry_at
one_entry columns n r c x = elim (cases_Bool (nat_lt c columns)) [
  | inl t ↦ cond-true _ _ x t ∙ all_one n (r * columns + c) x
  | inr f ↦ cond-false _ _ x f
]

-- rows without one but the sensors are within the limits, where 0 and the least delay are
pub quiet_within : (plan : PlanParts) (replicas cells actuators : ℕ) (delay_min : ℤ) (sensors : List ℤ)
    → IsWithin plan.timing.skew_limit (pos 0) → IsWithin plan.timing.drift_limit_ppm (pos 0) → IsDelayOf plan delay_min
    → AreWithinLimits plan (quiet_rows replicas cells actuators delay_min sensors)
unfolding slot_row lie_row lie_slot_row is_dropped skew_of rate_of delay_of
quiet_within plan replicas cells actuators delay_min sensors skew rate delay = record {
  slot = λ p slot e. absurd (none-some slot (sym (all_one replicas p None) ∙ e));
  lie_slot = λ p q slot e. absurd (none-some slot (sym (one_entry replicas (replicas * replicas) p q None) ∙ e));
  skew = λ p. subst (IsWithin plan.timing.skew_limit) (sym (all_one replicas p (pos 0))) skew;
  rate = λ p. subst (IsWithin plan.timing.drift_limit_ppm) (sym (all_one replicas p (pos 0))) rate;
  delay = λ p q. subst (IsDelayOf plan) (sym (one_entry replicas (replicas * replicas) p q delay_min)) delay;
  own = λ p. record {
    lie = λ c. elim (cases_Bool (nat_lt p replicas)) [
      | inl t ↦ cond-true _ _ None t ∙ one_entry cells (replicas * replicas * cells) (p * replicas + p) c None
      | inr f ↦ cond-false _ _ None f
    ];
    lie_slot = one_entry replicas (replicas * replicas) p p None;
    drop = one_entry replicas (replicas * replicas) p p false;
    delay = one_entry replicas (replicas * replicas) p p delay_min;
  };
}

-- the default of a delay is a delay of some pair
default_delay : (rows : FrameRows) (p : ℕ) → delay_of rows p rows.replicas ≡ rows.delay_min
unfolding delay_of entry_at
default_delay rows p = cond-false (nat_lt rows.replicas rows.replicas) _ _ (le-ltb rows.replicas rows.replicas (omega arith))

around_zero : (limit x : ℤ) → IsWithin limit x → IsWithin limit (pos 0)
around_zero limit x h = (omega (arith, ints, h.0, h.1), omega (arith, ints, h.0, h.1))

-- so are the rows of the frame that follows
pub cleared_within : (plan : PlanParts) (rows : FrameRows) → AreWithinLimits plan rows → AreWithinLimits plan (cleared rows)
unfolding cleared
cleared_within plan rows h =
    quiet_within plan rows.replicas rows.cells rows.actuators rows.delay_min rows.sensors
    (around_zero plan.timing.skew_limit (skew_of rows 0) (h.skew 0))
    (around_zero plan.timing.drift_limit_ppm (rate_of rows 0) (h.rate 0))
    (subst (IsDelayOf plan) (default_delay rows 0) (h.delay 0 rows.replicas))

-- and those of the first frame
pub first_within : (plan : PlanParts) (sensors : List ℤ) → AreInRange plan.timing → KeepsRules plan.timing → AreWithinLimits plan (no_rows plan sensors)
unfolding no_rows
first_within plan sensors range rules =
    quiet_within plan plan.replicas (length plan.cells) (length plan.actuators) plan.timing.delay_min sensors
    (omega (arith, ints, range.skew_limit.0), omega (arith, ints, range.skew_limit.0))
    (omega (arith, ints, range.drift_limit_ppm.0), omega (arith, ints, range.drift_limit_ppm.0))
    (range.delay_min.0, omega (arith, ints, rules.limits_nest.delay, rules.limits_nest.delay_limit))
