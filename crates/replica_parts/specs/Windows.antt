-- The window in which a receiver hears in a frame. This project's own.
use Rattle.std.specs.Prelude.{◌≡◌, ℕ}
use Rattle.rcp_model.specs.declared.plan.PlanParts.{PlanParts}
use Rattle.rcp_model.specs.FrameRows.{FrameRows, rate_of, skew_of}
use Rattle.rcp_model.specs.Moments.{begin_tick, vote_tick}
use Rattle.replica_parts.specs.declared.window.Window.{Window}

-- a window is that of a receiver in a frame
pub record IsWindowOf
    (plan : PlanParts) (frame : ℕ) (rows : FrameRows) (receiver : ℕ) (window : Window)
    : Type 0 where
  pub opens : window.opens ≡ begin_tick plan.timing frame (skew_of rows receiver)
  pub closes : window.closes
      ≡ vote_tick plan.timing frame (skew_of rows receiver) (rate_of rows receiver)
