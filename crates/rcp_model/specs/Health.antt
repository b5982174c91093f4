-- Which replicas are healthy, which are working, and the guard. The frames so far are listed with the newest first.
-- After NASA TM-102716; what counts as healthy is this project's own.
use Rattle.std.specs.Prelude.{ℕ, zero, suc, ◌*◌, ◌<◌, Bool, true, not, ◌&&◌, pos, neg_ℤ, int_le, List, [], ◌∷◌, length, count_by, is_none, ⊤}
use Rattle.std.specs.List.{range_with_len}
use Rattle.rcp_base.specs.Search.{all_below}
use Rattle.rcp_model.specs.declared.plan.PlanParts.{PlanParts}
use Rattle.rcp_model.specs.FrameRows.{FrameRows, is_down, slot_row, cell_row, act_row, lie_row, lie_slot_row, is_dropped, skew_of, rate_of, delay_of}

-- no row takes the replica down, or overwrites its slot, a cell or a command
unfoldable pub is_untouched : PlanParts → FrameRows → ℕ → Bool
is_untouched plan rows replica =
    not (is_down rows replica)
    && is_none (slot_row rows replica)
    && all_below (length plan.cells) (λ cell. is_none (cell_row rows replica cell))
    && all_below (length plan.actuators) (λ actuator. is_none (act_row rows replica actuator))

-- its clock is within the bounds of a healthy one
unfoldable pub keeps_time : PlanParts → FrameRows → ℕ → Bool
keeps_time plan rows replica =
    int_le (pos 0) (skew_of rows replica) && int_le (skew_of rows replica) plan.timing.skew
    && int_le (neg_ℤ plan.timing.drift_ppm) (rate_of rows replica) && int_le (rate_of rows replica) plan.timing.drift_ppm

-- no row changes or drops its message to a receiver
unfoldable pub is_faithful : PlanParts → FrameRows → ℕ → ℕ → Bool
is_faithful plan rows sender receiver =
    not (is_dropped rows sender receiver)
    && is_none (lie_slot_row rows sender receiver)
    && all_below (length plan.cells) (λ cell. is_none (lie_row rows sender receiver cell))

-- its message to a receiver takes no less and no longer than that of a healthy one
unfoldable pub is_timely : PlanParts → FrameRows → ℕ → ℕ → Bool
is_timely plan rows sender receiver =
    int_le plan.timing.delay_min (delay_of rows sender receiver) && int_le (delay_of rows sender receiver) plan.timing.delay_max

-- the replica is healthy in the frame of these rows
unfoldable pub is_healthy : PlanParts → FrameRows → ℕ → Bool
is_healthy plan rows replica =
    is_untouched plan rows replica
    && keeps_time plan rows replica
    && all_below plan.replicas (is_faithful plan rows replica)
    && all_below plan.replicas (is_timely plan rows replica)

-- it is healthy in each of the last so many frames; all frames before the first count as healthy
abbrev pub is_healthy_for : PlanParts → ℕ → List FrameRows → ℕ → Bool
is_healthy_for plan zero past replica = true
is_healthy_for plan (suc n) [] replica = true
is_healthy_for plan (suc n) (rows ∷ past) replica = is_healthy plan rows replica && is_healthy_for plan n past replica

-- it is working: healthy for the recovery length
abbrev pub is_working : PlanParts → ℕ → List FrameRows → ℕ → Bool
is_working plan recovery past replica = is_healthy_for plan recovery past replica

-- how many replicas are healthy in each of the last so many frames
abbrev pub healthy_count : PlanParts → ℕ → List FrameRows → ℕ
healthy_count plan frames past = count_by (is_healthy_for plan frames past) (range_with_len 0 plan.replicas)

-- more than half of the replicas are healthy through the last frame and for the recovery length before it
abbrev pub HasHealthyMajority : PlanParts → ℕ → List FrameRows → Type 0
HasHealthyMajority plan recovery past = plan.replicas < 2 * healthy_count plan (suc recovery) past

-- so it is in each frame so far
abbrev pub MeetsGuard : PlanParts → ℕ → List FrameRows → Type 0
MeetsGuard plan recovery [] = ⊤
MeetsGuard plan recovery (rows ∷ past) = HasHealthyMajority plan recovery (rows ∷ past) × MeetsGuard plan recovery past
