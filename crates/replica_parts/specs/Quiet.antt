-- What is so of a frame in which only sensors were written. This project's own.
use Rattle.std.specs.Prelude.{◌≡◌, ◌==◌, ◌<◌, ℕ, ℤ, false, not, pos}
use Rattle.rcp_model.specs.declared.plan.PlanParts.{PlanParts}
use Rattle.rcp_model.specs.FrameRows.{FrameRows, is_down, rate_of, skew_of}
use Rattle.rcp_model.specs.Messages.{arrival_of, goes_out}
use Rattle.rcp_model.specs.RowWrites.{cleared}
use Rattle.replica_parts.specs.declared.setting.Setting.{Setting}
use Rattle.replica_parts.specs.Setting.{IsSettingOf}

-- only sensors were written in a frame, and this is the tick at which its letters arrive
pub record IsQuietArrival (setting : Setting) (frame : ℕ) (rows : FrameRows) (arrival : ℤ)
    : Type 0 where
  pub quiet : rows ≡ cleared rows
  pub arrives : (plan : PlanParts) → IsSettingOf plan setting
      → arrival ≡ arrival_of plan frame rows 0 0

-- no replica is down, all clocks are right, and each message goes to every other replica and
-- arrives at one tick
pub record AreAlike (plan : PlanParts) (frame : ℕ) (rows : FrameRows) : Type 0 where
  pub up : (replica : ℕ) → is_down rows replica ≡ false
  pub skew : (replica : ℕ) → skew_of rows replica ≡ pos 0
  pub rate : (replica : ℕ) → rate_of rows replica ≡ pos 0
  pub goes : (sender receiver : ℕ) → sender < plan.replicas → receiver < plan.replicas
      → goes_out plan rows sender receiver ≡ not (sender == receiver)
  pub arrives : (sender receiver : ℕ)
      → arrival_of plan frame rows 0 0 ≡ arrival_of plan frame rows sender receiver
