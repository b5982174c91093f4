-- What the places of ballots say, and the vote of a replica that may be down. This project's own.
use Rattle.std.specs.Prelude.{false, true, ◌≡◌, ◌<◌, ℕ, Bool, List, slice_index_or, Option, Some, None, if◌then◌else◌}
use Rattle.rcp_base.specs.Message.{Content}
use Rattle.rcp_base.specs.Tables.{table}
use Rattle.rcp_model.specs.declared.plan.PlanParts.{PlanParts}
use Rattle.rcp_model.specs.Ballot as model
use Rattle.rcp_model.specs.FrameRows.{FrameRows}
use Rattle.rcp_model.specs.Messages.{Letter, heard_message, is_up}
use Rattle.rcp_model.specs.Uniprocessor.{ProcessorState}
use Rattle.replica_parts.specs.declared.ballot.Ballot.{Ballot}
use Rattle.replica_parts.specs.Places.{messages_in}

-- a place says what was heard of so many senders, the slot taken and the cells of a ballot
pub record IsBallot (replicas : ℕ) (place : Ballot) (ballot : model.Ballot) : Type 0 where
  pub heard : messages_in place.heard.items ≡ table replicas ballot.heard
  pub taken : place.taken ≡ ballot.taken
  pub cells : place.cells.items ≡ ballot.cells

-- it says so, or that there was no vote
abbrev pub IsBallotOrNone : ℕ → Ballot → Option model.Ballot → Type 0
IsBallotOrNone replicas place None = place.up ≡ false
IsBallotOrNone replicas place (Some ballot) = (place.up ≡ true) × IsBallot replicas place ballot

-- places say so of each replica
abbrev pub AreBallots : ℕ → List Ballot → (ℕ → Option model.Ballot) → Type 0
AreBallots replicas places voted =
    (replica : ℕ) (d : Ballot) → replica < replicas
    → IsBallotOrNone replicas (slice_index_or places replica d) (voted replica)

-- what a receiver hears of each sender, of letters of this frame and of the one before
abbrev pub heard_by : PlanParts → ℕ → FrameRows → ℕ → Content
    → (ℕ → Option Letter) → (ℕ → Option Letter) → ℕ → Option Content
heard_by plan frame rows receiver own fresh late sender =
    heard_message plan frame rows receiver sender own (fresh sender) (late sender)

-- the vote of a replica that computed these and heard these messages, or none where it is down
unfoldable pub ballot_now : PlanParts → (ℕ → ℕ → Bool) → FrameRows → ℕ → ProcessorState
    → (ℕ → Option Content) → Option model.Ballot
ballot_now plan votes rows replica computed heard =
    if is_up plan rows replica
    then Some (model.ballot_of plan votes computed.slot computed.cells heard)
    else None
