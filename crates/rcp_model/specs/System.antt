-- One frame of the replicated system, and the system after a history. Tables are functions of the replica's number.
-- The frames so far are listed with the newest first. After NASA TM-102716 and NASA TM-104196.
use Rattle.std.specs.Prelude.{ℕ, suc, ◌+◌, ◌%◌, ◌*ℤ◌, ◌-ℤ◌, int_le, ℤ, pos, List, [], ◌∷◌, length, slice_index_or, Option, Some, None, unwrap_or, if◌then◌else◌}
use Rattle.rcp_base.specs.Message.{Content}
use Rattle.rcp_base.specs.Tables.{table}
use Rattle.rcp_model.specs.declared.plan.PlanParts.{PlanParts}
use Rattle.rcp_model.specs.Ballot.{Ballot, ballot_of}
use Rattle.rcp_model.specs.Command.{command_of, voted_command}
use Rattle.rcp_model.specs.FrameRows.{FrameRows, slot_row, cell_row}
use Rattle.rcp_model.specs.Messages.{Letter, is_voted, own_message, is_up, letter_to, heard_message}
use Rattle.rcp_model.specs.Slot.{slot_count, cells_after_slot}
use Rattle.rcp_model.specs.TimingRules.{frame_length}
use Rattle.rcp_model.specs.Uniprocessor.{ProcessorState, initial_values}

-- how many frames are done, what each replica holds, what the last frame's votes and commands were, and what is on its way.
-- Commands are by replica and actuator, letters by receiver and sender
pub record SystemState : Type 0 where
  pub done : ℕ
  pub replicas : ℕ → ProcessorState
  pub ballots : ℕ → Option Ballot
  pub commands : ℕ → ℕ → Option ℤ
  pub letters : ℕ → ℕ → Option Letter

-- what a replica computes: its own slot over its cells
abbrev pub computed_cells : PlanParts → FrameRows → ProcessorState → List ℤ
computed_cells plan rows held = cells_after_slot plan held.slot rows.sensors held.cells

-- what a replica holds after its sync: the voted cells, and the slot that follows the one taken
unfoldable pub state_after_sync : PlanParts → Ballot → ProcessorState
state_after_sync plan ballot = record { slot = (ballot.taken + 1) % slot_count plan; cells = ballot.cells }

-- what it holds when rows have overwritten its slot and cells
unfoldable pub state_after_rows : PlanParts → FrameRows → ℕ → ProcessorState → ProcessorState
state_after_rows plan rows replica held = record {
  slot = unwrap_or (slot_row rows replica) held.slot;
  cells = table (length plan.cells) (λ cell. unwrap_or (cell_row rows replica cell) (slice_index_or held.cells cell (pos 0)));
}

-- a letter that is still on its way when the events of a frame end
unfoldable pub still_on_its_way : PlanParts → ℕ → Option Letter → Option Letter
still_on_its_way plan frame None = None
still_on_its_way plan frame (Some letter) =
    if int_le (pos (frame + 1) *ℤ frame_length plan.timing -ℤ plan.timing.skew_limit) letter.arrival then Some letter else None

-- what comes to the receiver from the sender in a frame
unfoldable pub fresh_letter : PlanParts → SystemState → FrameRows → ℕ → ℕ → Option Letter
fresh_letter plan state rows receiver sender =
    let held = state.replicas sender in
    letter_to plan state.done rows (own_message plan (is_voted plan) held.slot (computed_cells plan rows held)) sender receiver

-- what the receiver hears of the sender
unfoldable pub heard_in : PlanParts → SystemState → FrameRows → ℕ → ℕ → Option Content
heard_in plan state rows receiver sender =
    let held = state.replicas receiver in
    heard_message plan state.done rows receiver sender (own_message plan (is_voted plan) held.slot (computed_cells plan rows held))
    (fresh_letter plan state rows receiver sender) (state.letters receiver sender)

-- the vote of a replica that is up
unfoldable pub ballot_in : PlanParts → SystemState → FrameRows → ℕ → Ballot
ballot_in plan state rows replica =
    let held = state.replicas replica in
    ballot_of plan (is_voted plan) held.slot (computed_cells plan rows held) (heard_in plan state rows replica)

-- the end of a frame: rows overwrite, commands are given, and one frame more is done
unfoldable pub end_of_frame : PlanParts → ℕ → FrameRows → (ℕ → ProcessorState) → (ℕ → Option Ballot) → (ℕ → ℕ → Option Letter) → SystemState
end_of_frame plan done rows replicas ballots letters = record {
  done = suc done;
  replicas = λ replica. state_after_rows plan rows replica (replicas replica);
  ballots = ballots;
  commands = λ replica actuator. command_of plan rows replica actuator (ballots replica);
  letters = letters;
}

-- the system after one frame more: a replica that is down hears, takes and votes nothing and keeps what it holds
unfoldable pub next_state : PlanParts → SystemState → FrameRows → SystemState
next_state plan state rows =
    end_of_frame plan state.done rows
    (λ replica. if is_up plan rows replica then state_after_sync plan (ballot_in plan state rows replica) else state.replicas replica)
    (λ replica. if is_up plan rows replica then Some (ballot_in plan state rows replica) else None)
    (λ receiver sender. still_on_its_way plan state.done (fresh_letter plan state rows receiver sender))

-- the system before the first frame
unfoldable pub initial_state : PlanParts → SystemState
initial_state plan = record {
  done = 0;
  replicas = λ replica. record { slot = 0; cells = initial_values plan.cells };
  ballots = λ replica. None;
  commands = λ replica actuator. None;
  letters = λ receiver sender. None;
}

-- the system after these frames
abbrev pub state_after : PlanParts → List FrameRows → SystemState
state_after plan [] = initial_state plan
state_after plan (rows ∷ past) = next_state plan (state_after plan past) rows

-- the vote for an actuator in the last frame
unfoldable pub actuator_vote : PlanParts → SystemState → ℕ → Option ℤ
actuator_vote plan state actuator = voted_command plan state.commands actuator
