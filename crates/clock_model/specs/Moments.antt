-- What a journal may say of a replica's clock in a frame, and the ranges of sends and delays. This project's own.
use Rattle.std.specs.Prelude.{ℕ, ◌≤◌, ℤ, pos, neg_ℤ, ◌≤ℤ◌}
use Rattle.rcp_model.specs.declared.plan.Timing.{Timing}
use Rattle.rcp_model.specs.FrameLimits.{IsWithin}
use Rattle.rcp_model.specs.TimingRules.{AreInRange}

-- a frame of a journal, and a skew within its limit
pub record MayBegin (timing : Timing) (frame : ℕ) (skew : ℤ) : Type 0 where
  pub in_range : AreInRange timing
  pub frame_limit : frame ≤ 1_000_000
  pub skew_limit : IsWithin timing.skew_limit skew

-- and a rate within its limit too
pub record IsClock (timing : Timing) (frame : ℕ) (skew rate : ℤ) : Type 0 where
  pub begins : MayBegin timing frame skew
  pub rate_limit : IsWithin timing.drift_limit_ppm rate

-- a tick at which a frame may begin
abbrev pub IsBeginTick : ℤ → Type 0
IsBeginTick tick = (neg_ℤ (pos 1_000_000_000) ≤ℤ tick) × (tick ≤ℤ pos 4_000_001_000_000_000)

-- a tick at which a replica may vote or sync, by any clock
abbrev pub IsFrameTick : ℤ → Type 0
IsFrameTick tick = (neg_ℤ (pos 10_000_000_000_000) ≤ℤ tick) × (tick ≤ℤ pos 10_000_000_000_000_000)

-- a tick at which a message may be sent
abbrev pub IsSendTick : ℤ → Type 0
IsSendTick tick = (neg_ℤ (pos 10_000_000_000) ≤ℤ tick) × (tick ≤ℤ pos 10_000_000_000_000_000)

-- the ticks that a message may take
abbrev pub IsDelay : ℤ → Type 0
IsDelay ticks = (pos 0 ≤ℤ ticks) × (ticks ≤ℤ pos 10_000_000_000)
