-- A replica's clock, as the rows of a frame have it and as code reads it.
use Rattle.std.specs.Prelude.{IfSome}
use Rattle.std.proofs.Common.{◌≡◌, ℕ, ℤ, ◌≤◌, Option, None, Some, FitsSigned, w64, to_z, of_z, refl, ap, subst, ◌∙◌, arith}
use Rattle.std.proofs.lemmas.Int.{ints, to_z-of_z}
use Rattle.clock_model.specs.Moments.{IsClock, MayBegin}
use Rattle.rcp_model.specs.FrameRows.{FrameRows, rate_of, skew_of}
use Rattle.rcp_model.specs.RowWrites.{cleared}
use Rattle.rcp_model.specs.TimingRules.{KeepsRules}
use Rattle.rcp_model.specs.declared.plan.PlanParts.{PlanParts}
use Rattle.rcp_model.specs.declared.plan.Timing.{Timing}
use Rattle.replica_parts.specs.Laws.{QuietFramesAreAlike}
use Rattle.replica_parts.specs.Quiet.{AreAlike, IsQuietArrival}
use Rattle.replica_parts.specs.declared.setting.Setting.{Setting}
use Rattle.clocked_layer.specs.Opening.{ArriveTogether, ComeTogether, IsTimingWith, tick_of}
use Rattle.clocked_layer.specs.declared.ticks.Moment.{Moment}
use Rattle.clocked_layer.specs.declared.ticks.Moment.TheVariants.{Begins, Sends, Syncs, Votes}

module _ (timing : Timing) (rows : FrameRows) (of : IsTimingWith timing rows) where
  pub rules_kept : KeepsRules timing
  rules_kept = subst KeepsRules of.2 of.1.timing_rules

  clock_is : (frame replica : ℕ) → frame ≤ 1_000_000
      → IsClock timing frame (skew_of rows replica) (rate_of rows replica)
  clock_is frame replica h =
      subst (λ t. IsClock t frame (skew_of rows replica) (rate_of rows replica)) of.2
      (record {
        begins = record {
          in_range = of.1.timing_range;
          frame_limit = h;
          skew_limit = of.3.limits.skew replica;
        };
        rate_limit = of.3.limits.rate replica;
      })

  skew_fits : (replica : ℕ) → FitsSigned w64 (skew_of rows replica)
  skew_fits replica =
      let h = of.3.limits.skew replica in
      let r = of.1.timing_range.skew_limit in
      omega (arith, ints, h.0, h.1, r.0, r.1)

  rate_fits : (replica : ℕ) → FitsSigned w64 (rate_of rows replica)
  rate_fits replica =
      let h = of.3.limits.rate replica in
      let r = of.1.timing_range.drift_limit_ppm in
      omega (arith, ints, h.0, h.1, r.0, r.1)

  -- what is read of a row comes back from 64 bits
  pub skew_read : (replica : ℕ) (skew : ℤ) → skew ≡ skew_of rows replica
      → to_z w64 (of_z w64 skew) ≡ skew_of rows replica
  skew_read replica skew e =
      ap (λ (x : ℤ). to_z w64 (of_z w64 x)) e ∙ to_z-of_z w64 _ (skew_fits replica)

  pub rate_read : (replica : ℕ) (rate : ℤ) → rate ≡ rate_of rows replica
      → to_z w64 (of_z w64 rate) ≡ rate_of rows replica
  rate_read replica rate e =
      ap (λ (x : ℤ). to_z w64 (of_z w64 x)) e ∙ to_z-of_z w64 _ (rate_fits replica)

  pub clock_seen : (frame replica : ℕ) (skew rate : ℤ) → frame ≤ 1_000_000
      → skew ≡ skew_of rows replica → rate ≡ rate_of rows replica
      → IsClock timing frame (to_z w64 (of_z w64 skew)) (to_z w64 (of_z w64 rate))
  clock_seen frame replica skew rate h e f =
      rw (skew_read replica skew e, rate_read replica rate f) (clock_is frame replica h)

  pub begin_seen : (frame replica : ℕ) (skew : ℤ) → frame ≤ 1_000_000
      → skew ≡ skew_of rows replica → MayBegin timing frame (to_z w64 (of_z w64 skew))
  begin_seen frame replica skew h e =
      rw (skew_read replica skew e) ((clock_is frame replica h).begins)

-- Ticks of a frame in which only sensors were written.

pub same_tick : (plan : PlanParts) (frame : ℕ) (rows : FrameRows) (moment : Moment) (replica : ℕ)
    → AreAlike plan frame rows
    → tick_of plan frame rows moment 0 ≡ tick_of plan frame rows moment replica
same_tick plan frame rows Begins replica alike =
    rw (alike.skew 0, alike.skew replica) refl
same_tick plan frame rows Sends replica alike =
    rw (alike.skew 0, alike.rate 0, alike.skew replica, alike.rate replica) refl
same_tick plan frame rows Votes replica alike =
    rw (alike.skew 0, alike.rate 0, alike.skew replica, alike.rate replica) refl
same_tick plan frame rows Syncs replica alike =
    rw (alike.skew 0, alike.rate 0, alike.skew replica, alike.rate replica) refl

pub all_come : (timing : Timing) (frame : ℕ) (rows : FrameRows) (moment : Moment) (tick : ℤ)
    → QuietFramesAreAlike → IsTimingWith timing rows → rows ≡ cleared rows
    → ((plan : PlanParts) → plan.timing ≡ timing → tick ≡ tick_of plan frame rows moment 0)
    → ComeTogether timing frame rows moment tick
all_come timing frame rows moment tick law of quiet is = record {
  up = (law of.0 frame rows quiet).up;
  comes = λ plan replica same.
      is plan same ∙ same_tick plan frame rows moment replica (law plan frame rows quiet);
}

pub all_arrive : (setting : Setting) (frame : ℕ) (rows : FrameRows) (arrival : Option ℤ)
    → QuietFramesAreAlike → IfSome arrival (IsQuietArrival setting frame rows)
    → IfSome arrival (ArriveTogether setting frame rows)
all_arrive setting frame rows None law quiet = tt
all_arrive setting frame rows (Some tick) law quiet = record {
  goes = λ plan p q s. (law plan frame rows quiet.quiet).goes p q;
  arrives = λ plan p q s.
      quiet.arrives plan s ∙ (law plan frame rows quiet.quiet).arrives p q;
}
