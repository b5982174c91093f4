-- What a replica's phase shows of its seat, and how it rests between frames. This project's own.
use Rattle.std.specs.Prelude.{◌≡◌, ◌<◌, ℕ, ℤ, List, [], length, slice_index_or, Option, Some, unwrap_or, if◌then◌else◌, Bool}
use Rattle.rcp_base.specs.Message.{Content}
use Rattle.rcp_model.specs.declared.plan.PlanParts.{PlanParts}
use Rattle.rcp_model.specs.Ballot.{Ballot}
use Rattle.rcp_model.specs.Command.{command_of}
use Rattle.rcp_model.specs.FrameRows.{FrameRows}
use Rattle.rcp_model.specs.System.{SystemState, state_after_rows}
use Rattle.rcp_model.specs.Uniprocessor.{ProcessorState}
use Rattle.phase_machine.specs.Phases.{BeforeFrame, IsComputing, IsSending, IsSyncing, IsVoting, evaluated_over, part_of}
use Rattle.phase_machine.specs.Seats.{Computed, Decided, Finished, Seat, Stage, Told, Waiting}
use Rattle.phase_machine.specs.declared.computing.Computing.{Computing as Waits}
use Rattle.phase_machine.specs.declared.phase.Phase.{Phase}
use Rattle.phase_machine.specs.declared.phase.Phase.TheVariants.{Computing, Sending, Voting, Syncing, Moving}

-- the slot of a seat, with the cells that it computed
abbrev pub computed_now : Seat → ProcessorState
computed_now seat = record { slot = seat.held.slot; cells = unwrap_or seat.computed [] }

-- what a replica with this vote has when rows have overwritten what it holds and commands
abbrev pub rested : PlanParts → FrameRows → ℕ → Seat → Option Ballot → BeforeFrame
rested plan rows replica seat ballot = record {
  held = state_after_rows plan rows replica seat.held;
  boxes = seat.boxes;
  voted = ballot;
  commands = λ actuator. command_of plan rows replica actuator ballot;
}

-- a replica that waits holds what its seat does, and one that has finished what rows make of it
abbrev pub ShowsComputing : PlanParts → FrameRows → ℕ → Waits → Seat → Stage → Type 0
ShowsComputing plan rows replica phase seat Waiting =
    (voted : Option Ballot) × (commands : ℕ → Option ℤ) × IsComputing plan replica phase (record {
      held = seat.held;
      boxes = seat.boxes;
      voted = voted;
      commands = commands;
    })
ShowsComputing plan rows replica phase seat Finished =
    IsComputing plan replica phase (rested plan rows replica seat seat.ballot)
ShowsComputing plan rows replica phase seat stage = ⊥

-- a phase shows the stage of a seat, and what matters of it from there on
abbrev pub ShowsSeat : PlanParts → FrameRows → ℕ → Phase → Seat → Type 0
ShowsSeat plan rows replica (Computing phase) seat =
    ShowsComputing plan rows replica phase seat seat.stage
ShowsSeat plan rows replica (Sending phase) seat =
    (seat.stage ≡ Computed) × IsSending plan replica phase
    (record { computed = computed_now seat; boxes = seat.boxes })
ShowsSeat plan rows replica (Voting phase) seat =
    (seat.stage ≡ Told) × (own : Content) × (seat.own ≡ Some own) × IsVoting plan replica phase
    (record { computed = computed_now seat; own = own; boxes = seat.boxes })
ShowsSeat plan rows replica (Syncing phase) seat =
    (seat.stage ≡ Decided) × (ballot : Ballot) × (seat.ballot ≡ Some ballot)
    × IsSyncing plan replica phase (record {
      ballot = ballot;
      commands = evaluated_over plan rows.sensors ballot;
      boxes = seat.boxes;
    })
ShowsSeat plan rows replica Moving seat = ⊥

-- each phase shows the seat of its replica
abbrev pub AllShow : PlanParts → FrameRows → List Phase → (ℕ → Seat) → Type 0
AllShow plan rows phases seats =
    (replica : ℕ) → replica < length phases
    → ShowsSeat plan rows replica (slice_index_or phases replica Moving) (seats replica)

-- a replica between two frames
abbrev pub RestsPhase : PlanParts → ℕ → Phase → BeforeFrame → Type 0
RestsPhase plan replica (Computing phase) before = IsComputing plan replica phase before
RestsPhase plan replica phase before = ⊥

-- each phase rests with its replica's part of a state, and with these mailboxes
abbrev pub AllRest : PlanParts → List Phase → SystemState → (ℕ → ℕ → Option Content) → Type 0
AllRest plan phases state boxes =
    (replica : ℕ) → replica < length phases
    → RestsPhase plan replica (slice_index_or phases replica Moving)
    (part_of state replica (boxes replica))

-- the stage of a replica at the end of a frame
abbrev pub last_stage : Bool → Stage
last_stage up = if up then Finished else Waiting
