-- The states from which a block is opened: no letter is too late for it. This project's own.
use Rattle.std.specs.Prelude.{◌≡◌, ℕ, ◌<◌, Some, ◌<ℤ◌}
use Rattle.clock_model.specs.Order.{KeepsOrder, send_limit}
use Rattle.rcp_model.specs.FrameRows.{FrameRows}
use Rattle.rcp_model.specs.Messages.{Letter}
use Rattle.rcp_model.specs.System.{SystemState}
use Rattle.rcp_model.specs.declared.plan.PlanParts.{PlanParts}

-- each letter on its way is between replicas of the plan, of a frame that is done, and arrives
-- before any replica sends in the next
pub record IsReady (plan : PlanParts) (state : SystemState) : Type 0 where
  pub sooner : (receiver sender : ℕ) (letter : Letter)
      → state.letters receiver sender ≡ Some letter → letter.arrival <ℤ send_limit plan state.done
  pub done : (receiver sender : ℕ) (letter : Letter)
      → state.letters receiver sender ≡ Some letter → 0 < state.done
  pub range : (receiver sender : ℕ) (letter : Letter)
      → state.letters receiver sender ≡ Some letter
      → (receiver < plan.replicas) × (sender < plan.replicas)

-- and the moments of the next frame keep their order
pub record IsTimely (plan : PlanParts) (rows : FrameRows) (state : SystemState) : Type 0 where
  pub ready : IsReady plan state
  pub order : KeepsOrder plan state.done rows
