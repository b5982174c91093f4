-- Under the guard the replicas hold and command what the single processor does. After NASA TM-102716.
use Rattle.std.specs.Prelude.{◌≡◌, ◌<◌, ℕ, suc, true, List, [], ◌∷◌, length, Some, ⊤}
use Rattle.rcp_model.specs.declared.plan.PlanParts.{PlanParts}
use Rattle.rcp_model.specs.AtFrame.{ideal_after, system_after, ideal_command_at, vote_at, is_working_at, MeetsGuardAt}
use Rattle.rcp_model.specs.FrameRows.{FrameRows}
use Rattle.rcp_model.specs.Health.{is_working, MeetsGuard}
use Rattle.rcp_model.specs.History.{History, sensors_of}
use Rattle.rcp_model.specs.Plan.{IsPlan}
use Rattle.rcp_model.specs.PlanGraph.{graph_of_plan}
use Rattle.rcp_model.specs.Slot.{actuator_at}
use Rattle.rcp_model.specs.System.{SystemState, state_after, actuator_vote}
use Rattle.rcp_model.specs.Uniprocessor.{ideal_state, ideal_command}
use Rattle.rcp_model.specs.Walk.{HasNoWalk}

-- each working replica holds what the single processor holds after these frames
abbrev pub WorkingReplicasAreIdeal : PlanParts → ℕ → SystemState → List FrameRows → Type 0
WorkingReplicasAreIdeal plan recovery state past =
    (replica : ℕ) → replica < plan.replicas → is_working plan recovery past replica ≡ true
    → state.replicas replica ≡ ideal_state plan (sensors_of past)

-- in the last of these frames, the vote for each actuator is the command of the single processor
abbrev pub VotesAreIdeal : PlanParts → SystemState → List FrameRows → Type 0
VotesAreIdeal plan state [] = ⊤
VotesAreIdeal plan state (rows ∷ past) =
    (actuator : ℕ) → actuator < length plan.actuators
    → actuator_vote plan state actuator
    ≡ Some (ideal_command plan (actuator_at plan actuator) rows.sensors (sensors_of past))

-- after these frames the system shows what the single processor shows
pub record MatchesIdeal (plan : PlanParts) (recovery : ℕ) (state : SystemState)
    (past : List FrameRows) : Type 0 where
  pub replicas : WorkingReplicasAreIdeal plan recovery state past
  pub votes : VotesAreIdeal plan state past

-- under the guard the system shows what the single processor does, where no unvoted walk is as long as the recovery length
abbrev pub ReplicasRecover : Type 0
ReplicasRecover =
    (plan : PlanParts) (recovery : ℕ) (past : List FrameRows)
    → IsPlan plan → 0 < recovery → HasNoWalk (graph_of_plan plan) recovery
    → MeetsGuard plan recovery past
    → MatchesIdeal plan recovery (state_after plan past) past

-- the same of a frame of a history, in the words of a reader who counts frames from 0
pub record MatchesIdealAt (plan : PlanParts) (recovery : ℕ) (history : History) (frame : ℕ)
    : Type 0 where
  pub replicas :
      (replica : ℕ) → replica < plan.replicas
      → is_working_at plan recovery history frame replica ≡ true
      → (system_after plan history (suc frame)).replicas replica ≡ ideal_after plan history (suc frame)
  pub votes :
      (actuator : ℕ) → actuator < length plan.actuators
      → vote_at plan history frame actuator ≡ Some (ideal_command_at plan history frame actuator)

-- under the guard at a frame of a history the system shows there what the single processor does
abbrev pub ReplicasRecoverByFrames : Type 0
ReplicasRecoverByFrames =
    (plan : PlanParts) (recovery : ℕ) (history : History) (frame : ℕ)
    → IsPlan plan → 0 < recovery → HasNoWalk (graph_of_plan plan) recovery
    → frame < length history → MeetsGuardAt plan recovery history frame
    → MatchesIdealAt plan recovery history frame
