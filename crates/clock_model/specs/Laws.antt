-- What follows from the moments of a frame where a timing keeps its rules.
-- After NASA TM-104196; the numbers and their formulas are this project's own.
use Rattle.std.specs.Prelude.{ℕ, ◌+◌, ◌<◌, ◌≡◌, ◌⊎◌, true}
use Rattle.rcp_model.specs.declared.plan.PlanParts.{PlanParts}
use Rattle.rcp_model.specs.FrameLimits.{IsFrameOf}
use Rattle.rcp_model.specs.FrameRows.{FrameRows, skew_of, rate_of}
use Rattle.rcp_model.specs.Health.{is_healthy}
use Rattle.rcp_model.specs.Messages.{arrival_of}
use Rattle.rcp_model.specs.Moments.{is_in_window}
use Rattle.rcp_model.specs.TimingRules.{AreInRange, KeepsRules}
use Rattle.clock_model.specs.Order.{KeepsOrder, IsFollowedBy}

-- the sender's message of a frame arrives in the receiver's window of that frame
abbrev pub ArrivesInTime : PlanParts → ℕ → FrameRows → ℕ → ℕ → Type 0
ArrivesInTime plan frame rows sender receiver =
    is_in_window plan.timing frame (skew_of rows receiver) (rate_of rows receiver)
    (arrival_of plan frame rows sender receiver) ≡ true

-- so it does between two replicas that are healthy in the frame, where the timing keeps its rules
abbrev pub HealthyPairsHear : Type 0
HealthyPairsHear =
    (plan : PlanParts) (frame : ℕ) (rows : FrameRows) (sender receiver : ℕ)
    → AreInRange plan.timing → KeepsRules plan.timing → receiver < plan.replicas
    → is_healthy plan rows sender ≡ true → is_healthy plan rows receiver ≡ true
    → ArrivesInTime plan frame rows sender receiver

-- the moments of each frame keep their order, where the timing keeps its rules
abbrev pub MomentsKeepOrder : Type 0
MomentsKeepOrder =
    (plan : PlanParts) (frame : ℕ) (rows : FrameRows)
    → AreInRange plan.timing → KeepsRules plan.timing → IsFrameOf plan rows
    → KeepsOrder plan frame rows

-- so one frame follows the other
abbrev pub FramesFollowEachOther : Type 0
FramesFollowEachOther =
    (plan : PlanParts) (frame : ℕ) (rows next : FrameRows)
    → AreInRange plan.timing → KeepsRules plan.timing → IsFrameOf plan rows → IsFrameOf plan next
    → IsFollowedBy plan frame rows next

-- and a message lies in its receiver's window of no frame but its own and the next
abbrev pub MessagesMeetTwoWindows : Type 0
MessagesMeetTwoWindows =
    (plan : PlanParts) (frame other : ℕ) (rows others : FrameRows) (sender receiver : ℕ)
    → AreInRange plan.timing → KeepsRules plan.timing → IsFrameOf plan rows → IsFrameOf plan others
    → is_in_window plan.timing other (skew_of others receiver) (rate_of others receiver)
    (arrival_of plan frame rows sender receiver) ≡ true
    → (other ≡ frame) ⊎ (other ≡ frame + 1)
