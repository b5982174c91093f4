-- What follows from the definitions of a timing. This project's own.
use Rattle.std.specs.Prelude.{◌≡◌, ◌≤◌, ◌↔◌, ℕ, ℤ, pos, ◌*ℤ◌, ◌≤ℤ◌, Option, Some, None, IfSome}
use Rattle.rcp_model.specs.declared.plan.Timing.{Timing}
use Rattle.rcp_model.specs.Rounding.{parts_rounded_down, parts_rounded_up}
use Rattle.rcp_model.specs.TimingRules.{AreInRange, PhasesLast, BroadcastFits, NoneIsEarly, FramesStayApart, LimitsNest, KeepsRules, first_failed_rule, delay_limit_of}

-- what is told is the number of the first rule that a timing breaks, and none exactly where it keeps all
pub record TellsFirstFailedRule (timing : Timing) (told : Option ℕ) : Type 0 where
  pub none : (told ≡ None) ↔ KeepsRules timing
  pub first : (told ≡ Some 1) ↔ (¬ (PhasesLast timing))
  pub second : (told ≡ Some 2) ↔ (PhasesLast timing × (¬ (BroadcastFits timing)))
  pub third : (told ≡ Some 3) ↔ (PhasesLast timing × BroadcastFits timing × (¬ (NoneIsEarly timing)))
  pub fourth : (told ≡ Some 4) ↔ (PhasesLast timing × BroadcastFits timing × NoneIsEarly timing × (¬ (FramesStayApart timing)))
  pub fifth : (told ≡ Some 5) ↔ (PhasesLast timing × BroadcastFits timing × NoneIsEarly timing × FramesStayApart timing × (¬ (LimitsNest timing)))
  pub numbers : IfSome told (λ rule. (1 ≤ rule) × (rule ≤ 5))

-- so does the definition, of every timing
abbrev pub TheFirstFailedRuleIsTold : Type 0
TheFirstFailedRuleIsTold = (timing : Timing) → TellsFirstFailedRule timing (first_failed_rule timing)

-- the last part of the fifth rule follows from the second rule, the fourth, and the limit on drift
abbrev pub TheDelayLimitFollows : Type 0
TheDelayLimitFollows =
    (timing : Timing) → AreInRange timing → BroadcastFits timing → FramesStayApart timing → timing.drift_limit_ppm ≤ℤ pos 1_000
    → timing.delay_max ≤ℤ delay_limit_of timing

-- the parts rounded down are the greatest whole number that is no more, and rounded up the least that is no less
pub record IsRounded (x ppm : ℤ) : Type 0 where
  pub down : (z : ℤ) → (z ≤ℤ parts_rounded_down x ppm) ↔ ((pos 1_000_000 *ℤ z) ≤ℤ (x *ℤ ppm))
  pub up : (z : ℤ) → (parts_rounded_up x ppm ≤ℤ z) ↔ ((x *ℤ ppm) ≤ℤ (pos 1_000_000 *ℤ z))

-- so it is for every number and rate, also below 0
abbrev pub PartsAreRounded : Type 0
PartsAreRounded = (x ppm : ℤ) → IsRounded x ppm
