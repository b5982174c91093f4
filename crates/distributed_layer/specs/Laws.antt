-- What follows of a frame that all replicas go through together. This project's own.
use Rattle.std.specs.Prelude.{◌≡◌, ℕ, Option}
use Rattle.rcp_base.specs.Message.{Content}
use Rattle.rcp_model.specs.declared.plan.PlanParts.{PlanParts}
use Rattle.rcp_model.specs.FrameRows.{FrameRows}
use Rattle.rcp_model.specs.System.{SystemState, next_state}
use Rattle.distributed_layer.specs.Together.{state_together}

-- the state after a frame in phases is the next one, whatever stood in the mailboxes
abbrev pub PhasesMakeTheNextState : Type 0
PhasesMakeTheNextState =
    (plan : PlanParts) (state : SystemState) (rows : FrameRows)
    (boxes : ℕ → ℕ → Option Content)
    → state_together plan state rows boxes ≡ next_state plan state rows
