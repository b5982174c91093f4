-- The ranges in which 64 bits are enough, and the two halves of the fifth rule. This project's own.
use Rattle.std.specs.Prelude.{ℤ, pos, ◌≤ℤ◌}
use Rattle.rcp_model.specs.declared.plan.Timing.{Timing}
use Rattle.rcp_model.specs.FrameLimits.{IsWithin}
use Rattle.rcp_model.specs.TimingRules.{delay_limit_of}

-- the ticks of up to three phases together
abbrev pub IsSpan : ℤ → Type 0
IsSpan x = (pos 0 ≤ℤ x) × (x ≤ℤ pos 3_000_000_000)

-- the ticks that a clock may drift over them
abbrev pub IsDrift : ℤ → Type 0
IsDrift x = (pos 0 ≤ℤ x) × (x ≤ℤ pos 3_000_000_000_000)

-- the rate of a clock in parts per million, whose ticks are longer than real ones or shorter
abbrev pub IsRate : ℤ → Type 0
IsRate ppm = IsWithin (pos 1_000_000_000) ppm

-- the real ticks by which such phases are longer or shorter
abbrev pub IsStretch : ℤ → Type 0
IsStretch x = IsWithin (pos 3_000_000_000_000) x

-- the skew and drift of healthy replicas are within what a journal may give
pub record ClocksNest (timing : Timing) : Type 0 where
  pub skew : timing.skew ≤ℤ timing.skew_limit
  pub drift : timing.drift_ppm ≤ℤ timing.drift_limit_ppm
  pub drift_limit : timing.drift_limit_ppm ≤ℤ pos 1_000

-- and so are their delays
pub record DelaysNest (timing : Timing) : Type 0 where
  pub delay : timing.delay_min ≤ℤ timing.delay_max
  pub delay_limit : timing.delay_max ≤ℤ delay_limit_of timing
