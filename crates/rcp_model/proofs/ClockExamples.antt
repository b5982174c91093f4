-- Moments of the example plans' frames, and the rules of their timing.
-- This project's own.
use Rattle.std.proofs.Common.{◌≡◌, refl, ℕ, ℤ, Bool, true, false, pos, neg_ℤ, [], ◌∷◌, Some, None}
use Rattle.rcp_model.specs.declared.plan.Timing.{Timing}
use Rattle.rcp_model.specs.FrameRows.{FrameRows, no_rows, skew_of, rate_of}
use Rattle.rcp_model.specs.RowWrites.{with_skew, with_rate, with_delay}
use Rattle.rcp_model.specs.Messages.{Letter, arrival_of}
use Rattle.rcp_model.specs.Moments.{begin_tick, send_tick, vote_tick, sync_tick}
use Rattle.rcp_model.specs.Rounding.{parts_rounded_up}
use Rattle.rcp_model.specs.Health.{is_healthy}
use Rattle.rcp_model.specs.System.{still_on_its_way}
use Rattle.rcp_model.specs.TimingRules.{frame_length, broadcast_need, arrival_need, sync_need, delay_limit_of, first_failed_rule}
use Rattle.rcp_model.proofs.ExampleEngines.{motor_engine, motor_engine_is}
use Rattle.rcp_model.proofs.ExamplePlans.{example_timing, motor_plan}
use Rattle.rcp_model.proofs.ExampleRuns.{ReplicaShown, Shows, shows_by, definitions, up, frame}

-- a frame with no row
abbrev plain : FrameRows
plain = no_rows motor_plan (pos 0 ∷ [])

-- the clock of replica 2 is ahead and slow, and one of its messages is late, all within the bounds of a healthy one
abbrev slow : FrameRows
slow = with_delay (with_rate (with_skew plain 2 (pos 50)) 2 (pos 100)) 2 0 (pos 2_000)

-- the begin, send, vote and sync of a replica in the first frame
record Moments : Type 0 where
  begin : ℤ
  send : ℤ
  vote : ℤ
  sync : ℤ

abbrev moments_of : ℕ → Moments
moments_of replica = record {
  begin = begin_tick example_timing 0 (skew_of slow replica);
  send = send_tick example_timing 0 (skew_of slow replica) (rate_of slow replica);
  vote = vote_tick example_timing 0 (skew_of slow replica) (rate_of slow replica);
  sync = sync_tick example_timing 0 (skew_of slow replica) (rate_of slow replica);
}

a_true_clock : moments_of 0 ≡ record { begin = pos 0; send = pos 30_000; vote = pos 40_000; sync = pos 44_000 }
unfolding definitions
a_true_clock = refl

a_slow_clock : moments_of 2 ≡ record { begin = pos 50; send = pos 30_053; vote = pos 40_054; sync = pos 44_054 }
unfolding definitions
a_slow_clock = refl

-- where the messages arrive
abbrev arrives : ℕ → ℕ → ℤ
arrives sender receiver = arrival_of motor_plan 0 slow sender receiver

messages_arrive :
    (arrives 0 1 ≡ pos 30_100) × (arrives 0 2 ≡ pos 30_100)
    × (arrives 1 0 ≡ pos 30_100) × (arrives 1 2 ≡ pos 30_100)
    × (arrives 2 1 ≡ pos 30_153) × (arrives 2 0 ≡ pos 32_053)
unfolding definitions
messages_arrive = (refl, refl, refl, refl, refl, refl)

abbrev at_rest : ReplicaShown
at_rest = up 1 (pos 0 ∷ pos 0 ∷ pos 0 ∷ []) true

clocks_within_their_bounds_change_nothing : Shows motor_plan 3 (slow ∷ [])
    (frame true (Some (pos 0)) (at_rest ∷ at_rest ∷ at_rest ∷ []) ∷ [])
unfolding definitions
clocks_within_their_bounds_change_nothing = shows_by _ _ motor_engine _ _ motor_engine_is refl

-- a clock and a delay at the bounds of a healthy replica, and past them
abbrev minus : ℕ → ℤ
minus n = neg_ℤ (pos n)

abbrev HasSkewAndRate : ℤ → ℤ → Bool → Type 0
HasSkewAndRate skew rate healthy = is_healthy motor_plan (with_rate (with_skew plain 1 skew) 1 rate) 1 ≡ healthy

abbrev HasDelay : ℤ → Bool → Type 0
HasDelay delay healthy = is_healthy motor_plan (with_delay plain 1 2 delay) 1 ≡ healthy

the_bounds_are_healthy :
    HasSkewAndRate (pos 0) (minus 100) true × HasSkewAndRate (pos 50) (pos 100) true
    × HasDelay (pos 100) true × HasDelay (pos 2_000) true
unfolding definitions
the_bounds_are_healthy = (refl, refl, refl, refl)

past_them_none_is :
    HasSkewAndRate (minus 1) (pos 0) false × HasSkewAndRate (pos 51) (pos 0) false
    × HasSkewAndRate (pos 0) (minus 101) false × HasSkewAndRate (pos 0) (pos 101) false
    × HasDelay (pos 99) false × HasDelay (pos 2_001) false
unfolding definitions
past_them_none_is = (refl, refl, refl, refl, refl, refl)

-- the first tick at which a letter of the first frame is still on its way after that frame's events
abbrev letter_at : ℤ → Letter
letter_at tick = record { arrival = tick; message = record { slot = 0; values = [] } }

letters_stay_from_here :
    (still_on_its_way motor_plan 0 (Some (letter_at (pos 49_500))) ≡ Some (letter_at (pos 49_500)))
    × (still_on_its_way motor_plan 0 (Some (letter_at (pos 49_499))) ≡ None)
unfolding definitions
letters_stay_from_here = (refl, refl)

-- the rules of the examples' timing
the_rules_read :
    (frame_length example_timing ≡ pos 50_000) × (broadcast_need example_timing ≡ pos 2_057)
    × (arrival_need example_timing ≡ pos 53) × (sync_need example_timing ≡ pos 1_022)
    × (delay_limit_of example_timing ≡ pos 48_969)
unfolding parts_rounded_up
the_rules_read = (refl, refl, refl, refl, refl)

abbrev with_delay_max : ℤ → Timing
with_delay_max ticks = record example_timing { delay_max = ticks }

all_rules_hold : first_failed_rule example_timing ≡ None
unfolding first_failed_rule parts_rounded_up
all_rules_hold = refl

the_greatest_delay_that_fits : first_failed_rule (with_delay_max (pos 9_943)) ≡ None
unfolding first_failed_rule parts_rounded_up
the_greatest_delay_that_fits = refl

the_least_that_does_not : first_failed_rule (with_delay_max (pos 9_944)) ≡ Some 2
unfolding first_failed_rule parts_rounded_up
the_least_that_does_not = refl
