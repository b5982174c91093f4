-- For how many frames each replica has been healthy, as a run counts it. This project's own.
use Rattle.std.specs.Prelude.{◌≡◌, ◌<◌, ◌≤◌, ◌+◌, ◌*◌, ℕ, min, nat_le, nat_lt, Bool, List, length, count_by, slice_index_or, if◌then◌else◌}
use Rattle.rcp_base.specs.Tables.{table}
use Rattle.rcp_model.specs.declared.plan.PlanParts.{PlanParts}
use Rattle.rcp_model.specs.FrameRows.{FrameRows}
use Rattle.rcp_model.specs.Health.{is_healthy, is_healthy_for}

-- for how many frames a replica is then healthy, counted up to one more than the recovery length
abbrev pub streak_after : ℕ → ℕ → Bool → ℕ
streak_after recovery streak healthy = if healthy then min (streak + 1) (recovery + 1) else 0

-- the same for each replica
unfoldable pub streaks_after : PlanParts → ℕ → List ℕ → FrameRows → List ℕ
streaks_after plan recovery streaks rows =
    table plan.replicas
    (λ replica.
    streak_after recovery (slice_index_or streaks replica 0) (is_healthy plan rows replica))

-- more than half have been healthy for more frames than the recovery length
unfoldable pub has_healthy_majority : ℕ → List ℕ → Bool
has_healthy_majority recovery streaks =
    nat_lt (length streaks) (2 * count_by (nat_lt recovery) streaks)

-- for how many frames each replica is healthy, counted up to one more than the recovery length
pub record AreStreaks (plan : PlanParts) (recovery : ℕ) (past : List FrameRows)
    (streaks : List ℕ) : Type 0 where
  pub size : length streaks ≡ plan.replicas
  pub small :
      (replica : ℕ) → replica < plan.replicas → slice_index_or streaks replica 0 ≤ recovery + 1
  pub healthy :
      (replica frames : ℕ) → replica < plan.replicas → frames ≤ recovery + 1
      → nat_le frames (slice_index_or streaks replica 0) ≡ is_healthy_for plan frames past replica
