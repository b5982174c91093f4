-- The order of moments: within a frame, from one frame to the next, and of messages.
-- After NASA TM-104196; the numbers and their formulas are this project's own.
use Rattle.std.specs.Prelude.{ℕ, ◌+◌, ℤ, pos, ◌+ℤ◌, ◌-ℤ◌, ◌*ℤ◌, ◌≤ℤ◌, ◌<ℤ◌}
use Rattle.rcp_model.specs.declared.plan.PlanParts.{PlanParts}
use Rattle.rcp_model.specs.FrameRows.{FrameRows, skew_of, rate_of}
use Rattle.rcp_model.specs.Messages.{arrival_of}
use Rattle.rcp_model.specs.Moments.{begin_tick, send_tick, vote_tick, sync_tick}
use Rattle.rcp_model.specs.TimingRules.{frame_length, limit_drift_of}

-- where a replica begins a frame, by its clock in the frame's rows
abbrev pub begin_of : PlanParts → ℕ → FrameRows → ℕ → ℤ
begin_of plan frame rows replica = begin_tick plan.timing frame (skew_of rows replica)

-- where it sends
abbrev pub send_of : PlanParts → ℕ → FrameRows → ℕ → ℤ
send_of plan frame rows replica =
    send_tick plan.timing frame (skew_of rows replica) (rate_of rows replica)

-- where it votes
abbrev pub vote_of : PlanParts → ℕ → FrameRows → ℕ → ℤ
vote_of plan frame rows replica =
    vote_tick plan.timing frame (skew_of rows replica) (rate_of rows replica)

-- where it syncs
abbrev pub sync_of : PlanParts → ℕ → FrameRows → ℕ → ℤ
sync_of plan frame rows replica =
    sync_tick plan.timing frame (skew_of rows replica) (rate_of rows replica)

-- the first tick of a frame's block, at which a replica with the least skew begins it
unfoldable pub block_begin : PlanParts → ℕ → ℤ
block_begin plan frame = pos frame *ℤ frame_length plan.timing -ℤ plan.timing.skew_limit

-- the least tick at which any replica may send in a frame
unfoldable pub send_limit : PlanParts → ℕ → ℤ
send_limit plan frame =
    block_begin plan frame
    +ℤ (plan.timing.compute -ℤ limit_drift_of plan.timing plan.timing.compute)

-- each replica's moments rise within the frame's block, and messages arrive before the next sends
pub record KeepsOrder (plan : PlanParts) (frame : ℕ) (rows : FrameRows) : Type 0 where
  pub begin_in_block : (replica : ℕ) → block_begin plan frame ≤ℤ begin_of plan frame rows replica
  pub send_follows_begin : (replica : ℕ)
      → begin_of plan frame rows replica ≤ℤ send_of plan frame rows replica
  pub vote_follows_send : (replica : ℕ)
      → send_of plan frame rows replica ≤ℤ vote_of plan frame rows replica
  pub sync_follows_vote : (replica : ℕ)
      → vote_of plan frame rows replica ≤ℤ sync_of plan frame rows replica
  pub sync_in_block : (replica : ℕ)
      → sync_of plan frame rows replica <ℤ block_begin plan (frame + 1)
  pub send_from_limit : (replica : ℕ) → send_limit plan frame ≤ℤ send_of plan frame rows replica
  pub arrival_follows_send : (sender receiver : ℕ)
      → send_of plan frame rows sender ≤ℤ arrival_of plan frame rows sender receiver
  pub arrival_before_limit : (sender receiver : ℕ)
      → arrival_of plan frame rows sender receiver <ℤ send_limit plan (frame + 1)

-- all sync a frame before one begins the next, and its messages arrive before one sends in that
pub record IsFollowedBy (plan : PlanParts) (frame : ℕ) (rows next : FrameRows) : Type 0 where
  pub sync_before_begin : (replica other : ℕ)
      → sync_of plan frame rows replica <ℤ begin_of plan (frame + 1) next other
  pub arrival_before_send : (sender receiver other : ℕ)
      → arrival_of plan frame rows sender receiver <ℤ send_of plan (frame + 1) next other
