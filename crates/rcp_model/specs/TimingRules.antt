-- The rules that a timing keeps, so that frames stay apart and healthy replicas hear each other.
-- After NASA TM-104196; the numbers and their formulas are this project's own.
use Rattle.std.specs.Prelude.{ℕ, ℤ, pos, ◌+ℤ◌, ◌-ℤ◌, ◌*ℤ◌, ◌≤ℤ◌, ◌<ℤ◌, int_le, int_lt, Bool, ◌&&◌, not, Option, Some, None, if◌then◌else◌}
use Rattle.rcp_model.specs.declared.plan.Timing.{Timing}
use Rattle.rcp_model.specs.Rounding.{parts_rounded_up}

-- a number that a timing may have, whatever the rules say of it
abbrev pub IsTimingNumber : ℤ → Type 0
IsTimingNumber x = (pos 0 ≤ℤ x) × (x ≤ℤ pos 1_000_000_000)

-- each number of a timing is in its range
pub record AreInRange (timing : Timing) : Type 0 where
  pub compute : IsTimingNumber timing.compute
  pub broadcast : IsTimingNumber timing.broadcast
  pub vote : IsTimingNumber timing.vote
  pub sync : IsTimingNumber timing.sync
  pub skew : IsTimingNumber timing.skew
  pub drift_ppm : IsTimingNumber timing.drift_ppm
  pub delay_min : IsTimingNumber timing.delay_min
  pub delay_max : IsTimingNumber timing.delay_max
  pub skew_limit : IsTimingNumber timing.skew_limit
  pub drift_limit_ppm : IsTimingNumber timing.drift_limit_ppm

-- the four phases together
abbrev pub frame_length : Timing → ℤ
frame_length timing = timing.compute +ℤ timing.broadcast +ℤ timing.vote +ℤ timing.sync

-- the ticks by which a healthy replica's clock may drift over x ticks, rounded up
abbrev pub drift_of : Timing → ℤ → ℤ
drift_of timing x = parts_rounded_up x timing.drift_ppm

-- the same for any replica's clock
abbrev pub limit_drift_of : Timing → ℤ → ℤ
limit_drift_of timing x = parts_rounded_up x timing.drift_limit_ppm

-- what skew, drift and delay of healthy replicas may take of a broadcast
abbrev pub broadcast_need : Timing → ℤ
broadcast_need timing =
    timing.skew +ℤ drift_of timing timing.compute +ℤ drift_of timing (timing.compute +ℤ timing.broadcast) +ℤ timing.delay_max

-- what skew and drift of healthy replicas may take of the ticks before a message arrives
abbrev pub arrival_need : Timing → ℤ
arrival_need timing = timing.skew +ℤ drift_of timing timing.compute

-- what skew and drift of any replicas may take of a sync
abbrev pub sync_need : Timing → ℤ
sync_need timing = pos 2 *ℤ timing.skew_limit +ℤ limit_drift_of timing (timing.compute +ℤ timing.broadcast +ℤ timing.vote)

-- the greatest delay that a journal may give, so that a message arrives before its sender sends again
abbrev pub delay_limit_of : Timing → ℤ
delay_limit_of timing = frame_length timing -ℤ pos 2 *ℤ timing.skew_limit -ℤ pos 2 *ℤ limit_drift_of timing timing.compute -ℤ pos 1

-- the first rule: no phase is empty
pub record PhasesLast (timing : Timing) : Type 0 where
  pub compute : pos 1 ≤ℤ timing.compute
  pub broadcast : pos 1 ≤ℤ timing.broadcast
  pub vote : pos 1 ≤ℤ timing.vote
  pub sync : pos 1 ≤ℤ timing.sync

-- the second rule, so that a healthy replica's message arrives by the vote of another
abbrev pub BroadcastFits : Timing → Type 0
BroadcastFits timing = broadcast_need timing ≤ℤ timing.broadcast

-- the third rule, so that it arrives no sooner than the other begins
abbrev pub NoneIsEarly : Timing → Type 0
NoneIsEarly timing = arrival_need timing ≤ℤ (timing.compute +ℤ timing.delay_min)

-- the fourth rule, so that all replicas sync a frame before one begins the next
abbrev pub FramesStayApart : Timing → Type 0
FramesStayApart timing = sync_need timing <ℤ timing.sync

-- the fifth rule: what is healthy lies within what a journal may give, and that within its limits
pub record LimitsNest (timing : Timing) : Type 0 where
  pub skew : timing.skew ≤ℤ timing.skew_limit
  pub drift : timing.drift_ppm ≤ℤ timing.drift_limit_ppm
  pub drift_limit : timing.drift_limit_ppm ≤ℤ pos 1_000
  pub delay : timing.delay_min ≤ℤ timing.delay_max
  pub delay_limit : timing.delay_max ≤ℤ delay_limit_of timing

-- all five rules hold
pub record KeepsRules (timing : Timing) : Type 0 where
  pub phases_last : PhasesLast timing
  pub broadcast_fits : BroadcastFits timing
  pub none_is_early : NoneIsEarly timing
  pub frames_stay_apart : FramesStayApart timing
  pub limits_nest : LimitsNest timing

-- the tests of the five rules
abbrev pub phases_last : Timing → Bool
phases_last timing =
    int_le (pos 1) timing.compute && int_le (pos 1) timing.broadcast && int_le (pos 1) timing.vote && int_le (pos 1) timing.sync

abbrev pub broadcast_fits : Timing → Bool
broadcast_fits timing = int_le (broadcast_need timing) timing.broadcast

abbrev pub none_is_early : Timing → Bool
none_is_early timing = int_le (arrival_need timing) (timing.compute +ℤ timing.delay_min)

abbrev pub frames_stay_apart : Timing → Bool
frames_stay_apart timing = int_lt (sync_need timing) timing.sync

abbrev pub limits_nest : Timing → Bool
limits_nest timing =
    int_le timing.skew timing.skew_limit
    && int_le timing.drift_ppm timing.drift_limit_ppm && int_le timing.drift_limit_ppm (pos 1_000)
    && int_le timing.delay_min timing.delay_max && int_le timing.delay_max (delay_limit_of timing)

-- the number of the first rule that fails, if one does
unfoldable pub first_failed_rule : Timing → Option ℕ
first_failed_rule timing =
    if not (phases_last timing) then Some 1
    else if not (broadcast_fits timing) then Some 2
    else if not (none_is_early timing) then Some 3
    else if not (frames_stay_apart timing) then Some 4
    else if not (limits_nest timing) then Some 5
    else None
