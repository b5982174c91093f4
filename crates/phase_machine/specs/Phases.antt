-- What a replica has in each phase of a frame. After NASA TM-104196.
use Rattle.std.specs.Prelude.{◌≡◌, ℕ, ℤ, Bool, List, length, Option, Some}
use Rattle.rcp_base.specs.Message.{Content}
use Rattle.rcp_base.specs.Tables.{table}
use Rattle.mailbox.specs.Mailboxes.{box_of}
use Rattle.rcp_model.specs.declared.plan.PlanParts.{PlanParts}
use Rattle.rcp_model.specs.Ballot.{Ballot, ballot_of}
use Rattle.rcp_model.specs.Slot.{actuator_at, actuator_value}
use Rattle.rcp_model.specs.System.{SystemState}
use Rattle.rcp_model.specs.Uniprocessor.{ProcessorState}
use Rattle.replica_parts.specs.Ballots.{IsBallotOrNone}
use Rattle.phase_machine.specs.Body.{IsBodyOf, heard_with}
use Rattle.phase_machine.specs.declared.body.Body.{Body}
use Rattle.phase_machine.specs.declared.computing.Computing.{Computing}
use Rattle.phase_machine.specs.declared.sending.Sending.{Sending}
use Rattle.phase_machine.specs.declared.voting.Voting.{Voting}
use Rattle.phase_machine.specs.declared.syncing.Syncing.{Syncing}

-- before a frame: what it holds, its mailboxes, and its vote and commands of the last frame
pub record BeforeFrame : Type 0 where
  pub held : ProcessorState
  pub boxes : ℕ → Option Content
  pub voted : Option Ballot
  pub commands : ℕ → Option ℤ

-- when it has computed: its slot with the cells after it, and its mailboxes
pub record HasComputed : Type 0 where
  pub computed : ProcessorState
  pub boxes : ℕ → Option Content

-- when it has sent: that, and its own message
pub record HasSent : Type 0 where
  pub computed : ProcessorState
  pub own : Content
  pub boxes : ℕ → Option Content

-- when it has voted: its vote, what its actuators' expressions give over it, and its mailboxes
pub record HasVoted : Type 0 where
  pub ballot : Ballot
  pub commands : ℕ → ℤ
  pub boxes : ℕ → Option Content

-- a replica's part of a state, with these mailboxes
abbrev pub part_of : SystemState → ℕ → (ℕ → Option Content) → BeforeFrame
part_of state replica boxes = record {
  held = state.replicas replica;
  boxes = boxes;
  voted = state.ballots replica;
  commands = state.commands replica;
}

-- the vote of a replica over what it hears once it has sent
abbrev pub vote_after : PlanParts → (ℕ → ℕ → Bool) → ℕ → HasSent → Ballot
vote_after plan votes replica sent =
    ballot_of plan votes sent.computed.slot sent.computed.cells
    (heard_with replica sent.own sent.boxes)

-- what an actuator's expression gives over the cells after a vote
abbrev pub evaluated_over : PlanParts → List ℤ → Ballot → ℕ → ℤ
evaluated_over plan sensors ballot actuator =
    actuator_value (actuator_at plan actuator) sensors ballot.cells

-- a body that has this before a frame
pub record OwnsBefore
    (plan : PlanParts) (replica : ℕ) (owned : Body) (before : BeforeFrame) : Type 0 where
  pub body : IsBodyOf plan replica owned
  pub held : owned.held ≡ before.held
  pub boxes : box_of owned.boxes ≡ before.boxes
  pub voted : IsBallotOrNone plan.replicas owned.ballot before.voted
  pub commands : owned.commands.items ≡ table (length plan.actuators) before.commands

-- one that has this when it has computed
pub record OwnsComputed
    (plan : PlanParts) (replica : ℕ) (owned : Body) (has : HasComputed) : Type 0 where
  pub body : IsBodyOf plan replica owned
  pub computed : owned.computed ≡ has.computed
  pub boxes : box_of owned.boxes ≡ has.boxes

-- one that has this when it has sent
pub record OwnsSent (plan : PlanParts) (replica : ℕ) (owned : Body) (has : HasSent) : Type 0 where
  pub body : IsBodyOf plan replica owned
  pub computed : owned.computed ≡ has.computed
  pub own : owned.own ≡ has.own
  pub boxes : box_of owned.boxes ≡ has.boxes

-- one that has this when it has voted
pub record OwnsVoted (plan : PlanParts) (replica : ℕ) (owned : Body) (has : HasVoted) : Type 0 where
  pub body : IsBodyOf plan replica owned
  pub voted : IsBallotOrNone plan.replicas owned.ballot (Some has.ballot)
  pub commands : owned.commands.items
      ≡ table (length plan.actuators) (λ actuator. Some (has.commands actuator))
  pub boxes : box_of owned.boxes ≡ has.boxes

-- the body in each phase's box has what is due then
abbrev pub IsComputing : PlanParts → ℕ → Computing → BeforeFrame → Type 0
IsComputing plan replica phase before = OwnsBefore plan replica phase.body.value before

abbrev pub IsSending : PlanParts → ℕ → Sending → HasComputed → Type 0
IsSending plan replica phase has = OwnsComputed plan replica phase.body.value has

abbrev pub IsVoting : PlanParts → ℕ → Voting → HasSent → Type 0
IsVoting plan replica phase has = OwnsSent plan replica phase.body.value has

abbrev pub IsSyncing : PlanParts → ℕ → Syncing → HasVoted → Type 0
IsSyncing plan replica phase has = OwnsVoted plan replica phase.body.value has
