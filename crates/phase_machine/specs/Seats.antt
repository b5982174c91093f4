-- How far a replica is in a frame, and what it has there. After NASA TM-104196.
use Rattle.std.specs.Prelude.{ℕ, ℤ, ◌==◌, List, [], Option, Some, None, unwrap_or, if◌then◌else◌}
use Rattle.rcp_base.specs.Message.{Content}
use Rattle.mailbox.specs.Mailboxes.{put}
use Rattle.rcp_model.specs.declared.plan.PlanParts.{PlanParts}
use Rattle.rcp_model.specs.Ballot.{Ballot, ballot_of}
use Rattle.rcp_model.specs.FrameRows.{FrameRows}
use Rattle.rcp_model.specs.Messages.{Letter, is_voted, own_message}
use Rattle.rcp_model.specs.System.{SystemState, computed_cells}
use Rattle.rcp_model.specs.Uniprocessor.{ProcessorState}
use Rattle.replica_parts.specs.States.{state_after_vote}

-- which of its phases a replica has behind it
pub data Stage : Type 0 where
  -- none
  Waiting : Stage
  -- it has computed
  Computed : Stage
  -- it has sent its message
  Told : Stage
  -- it has voted
  Decided : Stage
  -- it has synced
  Finished : Stage

-- what a replica has in the course of a frame
pub record Seat : Type 0 where
  pub stage : Stage
  pub held : ProcessorState
  pub computed : Option (List ℤ)
  pub own : Option Content
  pub ballot : Option Ballot
  pub boxes : ℕ → Option Content

-- before its frame: its part of a state, with these mailboxes
abbrev pub waiting_seat : SystemState → ℕ → (ℕ → Option Content) → Seat
waiting_seat state replica boxes = record {
  stage = Waiting;
  held = state.replicas replica;
  computed = None;
  own = None;
  ballot = state.ballots replica;
  boxes = boxes;
}

-- it empties its mailboxes, and computes
abbrev pub begun_seat : PlanParts → FrameRows → Seat → Seat
begun_seat plan rows seat = record seat {
  stage = Computed;
  computed = Some (computed_cells plan rows seat.held);
  boxes = λ sender. None;
}

-- its message: the slot that it is in, and the cells that are voted there, as it computed them
abbrev pub own_now : PlanParts → Seat → Content
own_now plan seat =
    own_message plan (is_voted plan) seat.held.slot (unwrap_or seat.computed [])

-- it sends its message
abbrev pub sent_seat : PlanParts → Seat → Seat
sent_seat plan seat = record seat { stage = Told; own = Some (own_now plan seat) }

-- mailboxes to which a letter of a sender has come, or none
abbrev pub got : (ℕ → Option Content) → ℕ → Option Letter → ℕ → Option Content
got boxes sender None = boxes
got boxes sender (Some letter) = put boxes sender (Some letter.message)

-- such a letter comes to it
abbrev pub got_seat : ℕ → Option Letter → Seat → Seat
got_seat sender letter seat = record seat { boxes = got seat.boxes sender letter }

-- what stands in its mailboxes, and its own message
abbrev pub heard_now : ℕ → Seat → ℕ → Option Content
heard_now replica seat = λ sender. if sender == replica then seat.own else seat.boxes sender

-- it hears that, and votes
abbrev pub voted_seat : PlanParts → ℕ → Seat → Seat
voted_seat plan replica seat = record seat {
  stage = Decided;
  ballot = Some (ballot_of plan (is_voted plan)
      seat.held.slot (unwrap_or seat.computed []) (heard_now replica seat));
}

-- it holds what it voted, and goes on to the slot that follows
abbrev pub synced_seat : PlanParts → Seat → Seat
synced_seat plan seat = record seat {
  stage = Finished;
  held = state_after_vote plan seat.ballot seat.held;
}
