-- What a layer tells of a state, and when its calls may be made. After NASA TM-102716 and NASA TM-104196.
use Rattle.std.specs.Prelude.{ℕ, ◌<◌, ℤ, pos, length, slice_index_or, Option, option_map}
use Rattle.std.specs.Option.{option_and_then}
use Rattle.rcp_base.specs.declared.TheConstants.{MAX_FRAMES}
use Rattle.rcp_base.specs.Message.{Content, value_in}
use Rattle.rcp_model.specs.declared.plan.PlanParts.{PlanParts}
use Rattle.rcp_model.specs.FrameLimits.{IsFrameOf}
use Rattle.rcp_model.specs.FrameRows.{FrameRows}
use Rattle.rcp_model.specs.System.{SystemState}

-- a cell of a replica
abbrev pub cell_in : SystemState → ℕ → ℕ → ℤ
cell_in state replica cell = slice_index_or (state.replicas replica).cells cell (pos 0)

-- what stood heard of a sender at the receiver's last vote
abbrev pub heard_from : SystemState → ℕ → ℕ → Option Content
heard_from state receiver sender =
    option_and_then (λ ballot. ballot.heard sender) (state.ballots receiver)

-- the slot that it names
abbrev pub heard_slot_in : SystemState → ℕ → ℕ → Option ℕ
heard_slot_in state receiver sender =
    option_map (λ message. message.slot) (heard_from state receiver sender)

-- the value that it names for a cell
abbrev pub heard_value_in : SystemState → ℕ → ℕ → ℕ → Option ℤ
heard_value_in state receiver sender cell =
    option_and_then (λ message. value_in message cell) (heard_from state receiver sender)

-- the slot that a replica took at its last vote
abbrev pub voted_slot_in : SystemState → ℕ → Option ℕ
voted_slot_in state replica = option_map (λ ballot. ballot.taken) (state.ballots replica)

-- a cell after its last vote
abbrev pub voted_cell_in : SystemState → ℕ → ℕ → Option ℤ
voted_cell_in state replica cell =
    option_map (λ ballot. slice_index_or ballot.cells cell (pos 0)) (state.ballots replica)

-- it is at a state of a plan that these are rows of, and not all frames are done that a journal may have
abbrev pub CanRunFrame : (PlanParts → SystemState → Type 0) → FrameRows → Type 0
CanRunFrame at rows =
    (plan : PlanParts) × (state : SystemState) × at plan state
    × IsFrameOf plan rows × (state.done < MAX_FRAMES)

-- it is at a state of a plan that has this replica
abbrev pub HasReplica : (PlanParts → SystemState → Type 0) → ℕ → Type 0
HasReplica at replica =
    (plan : PlanParts) × (state : SystemState) × at plan state × (replica < plan.replicas)

-- and this cell
abbrev pub HasCell : (PlanParts → SystemState → Type 0) → ℕ → ℕ → Type 0
HasCell at replica cell =
    (plan : PlanParts) × (state : SystemState) × at plan state
    × (replica < plan.replicas) × (cell < length plan.cells)

-- it is at a state of a plan that has this replica and this actuator
abbrev pub HasActuator : (PlanParts → SystemState → Type 0) → ℕ → ℕ → Type 0
HasActuator at replica actuator =
    (plan : PlanParts) × (state : SystemState) × at plan state
    × (replica < plan.replicas) × (actuator < length plan.actuators)

-- it is at a state of a plan that has these two replicas
abbrev pub HasPair : (PlanParts → SystemState → Type 0) → ℕ → ℕ → Type 0
HasPair at to from =
    (plan : PlanParts) × (state : SystemState) × at plan state
    × (to < plan.replicas) × (from < plan.replicas)

-- and this cell
abbrev pub HasPairAndCell : (PlanParts → SystemState → Type 0) → ℕ → ℕ → ℕ → Type 0
HasPairAndCell at to from cell =
    (plan : PlanParts) × (state : SystemState) × at plan state
    × (to < plan.replicas) × (from < plan.replicas) × (cell < length plan.cells)
