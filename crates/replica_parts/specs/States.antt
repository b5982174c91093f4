-- What a replica holds in the course of a frame, and what it says. This project's own.
use Rattle.std.specs.Prelude.{ℕ, ℤ, Bool, List, [], Option, Some, None}
use Rattle.rcp_base.specs.Message.{Content}
use Rattle.rcp_model.specs.declared.plan.PlanParts.{PlanParts}
use Rattle.rcp_model.specs.Ballot.{Ballot}
use Rattle.rcp_model.specs.Messages.{own_message}
use Rattle.rcp_model.specs.Slot.{cells_after_slot}
use Rattle.rcp_model.specs.System.{state_after_sync}
use Rattle.rcp_model.specs.Uniprocessor.{ProcessorState}

-- its slot, and the cells after it
abbrev pub state_after_compute : PlanParts → List ℤ → ProcessorState → ProcessorState
state_after_compute plan sensors held = record {
  slot = held.slot;
  cells = cells_after_slot plan held.slot sensors held.cells;
}

-- what it says when it holds these computed cells
abbrev pub message_of : PlanParts → (ℕ → ℕ → Bool) → ProcessorState → Content
message_of plan votes computed = own_message plan votes computed.slot computed.cells

-- what it holds after its sync, or as before where it did not vote
abbrev pub state_after_vote : PlanParts → Option Ballot → ProcessorState → ProcessorState
state_after_vote plan None held = held
state_after_vote plan (Some ballot) held = state_after_sync plan ballot

-- what stands at a number that no replica has
abbrev pub no_state : ProcessorState
no_state = record { slot = 0; cells = [] }

-- what stands at a number that no replica has
abbrev pub no_content : Content
no_content = record { slot = 0; values = [] }
