-- The block of a frame, event by event: what each event does. After NASA TM-104196.
use Rattle.std.specs.Prelude.{ℕ, Bool, true, false, ◌&&◌, List, [], ◌∷◌, Option, None, ◌==◌, if◌then◌else◌}
use Rattle.clocked_layer.specs.Events.{block_events}
use Rattle.event_queue.specs.Agenda.{in_turn, without_event}
use Rattle.event_queue.specs.declared.event.Event.{Event}
use Rattle.event_queue.specs.declared.event.EventKind.{EventKind}
use Rattle.event_queue.specs.declared.event.EventKind.TheVariants.{Begin, Deliver, Send, Sync, Vote}
use Rattle.mailbox.specs.Mailboxes.{put}
use Rattle.phase_machine.specs.Seats.{Seat, begun_seat, got_seat, own_now, sent_seat, synced_seat, voted_seat, waiting_seat}
use Rattle.rcp_base.specs.Message.{Content}
use Rattle.rcp_model.specs.FrameRows.{FrameRows}
use Rattle.rcp_model.specs.Messages.{Letter, is_up, letter_to}
use Rattle.rcp_model.specs.System.{SystemState, end_of_frame}
use Rattle.rcp_model.specs.declared.plan.PlanParts.{PlanParts}

-- how many frames are done, what each replica has in this one, the letters of this frame and of the
-- one before that are on their way, by receiver and sender, and the events that are left, in turn
pub record Block : Type 0 where
  pub done : ℕ
  pub seats : ℕ → Seat
  pub fresh : ℕ → ℕ → Option Letter
  pub late : ℕ → ℕ → Option Letter
  pub left : List Event

-- the table of two numbers with another value at one place
abbrev pub put_pair : {A : Type 0} → (ℕ → ℕ → A) → ℕ → ℕ → A → ℕ → ℕ → A
put_pair values row column value =
    λ i j. if (i == row) && (j == column) then value else values i j

-- the table with other values in one column
abbrev pub put_column : {A : Type 0} → (ℕ → ℕ → A) → ℕ → (ℕ → A) → ℕ → ℕ → A
put_column values column new = λ i j. if j == column then new i else values i j

-- the block with one replica's part of a step done
abbrev pub at_seat : (Seat → Seat) → Block → ℕ → Block
at_seat step block replica =
    record block { seats = put block.seats replica (step (block.seats replica)) }

-- the sender's message is fixed, and what goes out of it is on its way
abbrev pub block_after_send : PlanParts → FrameRows → Block → ℕ → Block
block_after_send plan rows block sender =
    let own = own_now plan (block.seats sender) in
    record (at_seat (sent_seat plan) block sender) {
      fresh = put_column block.fresh sender (letter_to plan block.done rows own sender);
    }

-- a letter of this frame, or of the one before, is on its way no more and lies in the mailbox
abbrev pub block_after_delivery : Bool → Block → ℕ → ℕ → Block
block_after_delivery true block receiver sender =
    record (at_seat (got_seat sender (block.fresh receiver sender)) block receiver) {
      fresh = put_pair block.fresh receiver sender None;
    }
block_after_delivery false block receiver sender =
    record (at_seat (got_seat sender (block.late receiver sender)) block receiver) {
      late = put_pair block.late receiver sender None;
    }

-- what an event of a kind does
abbrev pub block_after_kind : EventKind → PlanParts → FrameRows → Block → Event → Block
block_after_kind Begin plan rows block event = at_seat (begun_seat plan rows) block event.replica
block_after_kind Send plan rows block event = block_after_send plan rows block event.replica
block_after_kind Deliver plan rows block event =
    block_after_delivery (event.frame == block.done) block event.replica event.other
block_after_kind Vote plan rows block event =
    at_seat (voted_seat plan event.replica) block event.replica
block_after_kind Sync plan rows block event = at_seat (synced_seat plan) block event.replica

-- an event happens, and is left no more
abbrev pub block_after_event : PlanParts → FrameRows → Block → Event → Block
block_after_event plan rows block event =
    record (block_after_kind event.kind plan rows block event) {
      left = without_event event block.left;
    }

-- the events of a log happen one after the other
abbrev pub block_after_log : PlanParts → FrameRows → Block → List Event → Block
block_after_log plan rows block [] = block
block_after_log plan rows block (event ∷ log) =
    block_after_log plan rows (block_after_event plan rows block event) log

-- the block of the frame after a state, before its first event, with what the mailboxes held
abbrev pub opened_block : PlanParts → SystemState → FrameRows → (ℕ → ℕ → Option Content) → Block
opened_block plan state rows boxes = record {
  done = state.done;
  seats = λ replica. waiting_seat state replica (boxes replica);
  fresh = λ receiver sender. None;
  late = state.letters;
  left = in_turn (block_events plan state rows);
}

-- the state after a block: rows overwrite, and each replica that voted gives its commands
abbrev pub closed_state : PlanParts → FrameRows → Block → SystemState
closed_state plan rows block =
    end_of_frame plan block.done rows (λ replica. (block.seats replica).held)
    (λ replica. if is_up plan rows replica then (block.seats replica).ballot else None)
    block.fresh

-- the state after a log
abbrev pub state_after_log : PlanParts → SystemState → FrameRows → (ℕ → ℕ → Option Content)
    → List Event → SystemState
state_after_log plan state rows boxes log =
    closed_state plan rows (block_after_log plan rows (opened_block plan state rows boxes) log)
