-- Which rows of a frame a journal may give. This project's own.
use Rattle.std.specs.Prelude.{ℕ, ◌≡◌, ◌<◌, false, ◌≤ℤ◌, ℤ, pos, neg_ℤ, None, Some}
use Rattle.rcp_model.specs.declared.plan.PlanParts.{PlanParts}
use Rattle.rcp_model.specs.FrameRows.{FrameRows, slot_row, lie_row, lie_slot_row, is_dropped, skew_of, rate_of, delay_of, AreRowsOf}
use Rattle.rcp_model.specs.Slot.{slot_count}
use Rattle.rcp_model.specs.TimingRules.{delay_limit_of}

-- at most so far from 0
abbrev pub IsWithin : ℤ → ℤ → Type 0
IsWithin limit x = (neg_ℤ limit ≤ℤ x) × (x ≤ℤ limit)

-- a delay that a journal of the plan may give
abbrev pub IsDelayOf : PlanParts → ℤ → Type 0
IsDelayOf plan ticks = (pos 0 ≤ℤ ticks) × (ticks ≤ℤ delay_limit_of plan.timing)

-- no row changes, drops or delays what a replica says to itself
pub record IsUntouchedByItself (rows : FrameRows) (replica : ℕ) : Type 0 where
  pub lie : (cell : ℕ) → lie_row rows replica replica cell ≡ None
  pub lie_slot : lie_slot_row rows replica replica ≡ None
  pub drop : is_dropped rows replica replica ≡ false
  pub delay : delay_of rows replica replica ≡ rows.delay_min

-- what the rows say is within the limits of a journal, for every number
pub record AreWithinLimits (plan : PlanParts) (rows : FrameRows) : Type 0 where
  pub slot : (replica slot : ℕ) → slot_row rows replica ≡ Some slot → slot < slot_count plan
  pub lie_slot : (sender receiver slot : ℕ) → lie_slot_row rows sender receiver ≡ Some slot → slot < slot_count plan
  pub skew : (replica : ℕ) → IsWithin plan.timing.skew_limit (skew_of rows replica)
  pub rate : (replica : ℕ) → IsWithin plan.timing.drift_limit_ppm (rate_of rows replica)
  pub delay : (sender receiver : ℕ) → IsDelayOf plan (delay_of rows sender receiver)
  pub own : (replica : ℕ) → IsUntouchedByItself rows replica

-- rows of a frame of the plan, within the limits of a journal
pub record IsFrameOf (plan : PlanParts) (rows : FrameRows) : Type 0 where
  pub tables : AreRowsOf plan rows
  pub limits : AreWithinLimits plan rows
