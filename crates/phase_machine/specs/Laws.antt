-- What follows of replicas that rest for the frame that comes. This project's own.
use Rattle.std.specs.Prelude.{ℕ, List, Option}
use Rattle.rcp_base.specs.Message.{Content}
use Rattle.rcp_model.specs.declared.plan.PlanParts.{PlanParts}
use Rattle.rcp_model.specs.FrameRows.{FrameRows}
use Rattle.rcp_model.specs.System.{SystemState}
use Rattle.phase_machine.specs.Phase.{AllRest, AllShow}
use Rattle.phase_machine.specs.Seats.{waiting_seat}
use Rattle.phase_machine.specs.declared.phase.Phase.{Phase}

-- replicas that rest at a state wait for a frame of any rows, with their parts of that state
abbrev pub RestingReplicasWait : Type 0
RestingReplicasWait =
    (plan : PlanParts) (rows : FrameRows) (phases : List Phase) (state : SystemState)
    (boxes : ℕ → ℕ → Option Content) → AllRest plan phases state boxes
    → AllShow plan rows phases (λ replica. waiting_seat state replica (boxes replica))
