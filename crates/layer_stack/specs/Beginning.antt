-- The replicated system before the first frame. After NASA TM-102716.
use Rattle.std.specs.Prelude.{◌≡◌, ℕ, true, false, [], None}
use Rattle.rcp_model.specs.declared.plan.PlanParts.{PlanParts}
use Rattle.rcp_model.specs.FrameRows.{is_down}
use Rattle.rcp_model.specs.Health.{is_working, MeetsGuard}
use Rattle.rcp_model.specs.System.{initial_state, actuator_vote}
use Rattle.rcp_model.specs.Uniprocessor.{ideal_state}
use Rattle.layer_stack.specs.Run.{last_rows}

-- every replica holds what the single processor holds, is working and not down, the guard holds, and no vote is there
pub record BeginsIdeal (plan : PlanParts) (recovery : ℕ) : Type 0 where
  pub replicas : (replica : ℕ) → (initial_state plan).replicas replica ≡ ideal_state plan []
  pub working : (replica : ℕ) → is_working plan recovery [] replica ≡ true
  pub up : (replica : ℕ) → is_down (last_rows plan []) replica ≡ false
  pub guard : MeetsGuard plan recovery []
  pub votes : (actuator : ℕ) → actuator_vote plan (initial_state plan) actuator ≡ None

-- so it is for every plan and recovery length
abbrev pub EverySystemBeginsIdeal : Type 0
EverySystemBeginsIdeal = (plan : PlanParts) (recovery : ℕ) → BeginsIdeal plan recovery
