-- What is kept of a block while the events of a legal log happen.
use Rattle.std.specs.Prelude.{int_le}
use Rattle.std.specs.Option.{option_or}
use Rattle.std.proofs.Common.{◌≡◌, ℕ, ℤ, Bool, true, false, cond, Option, Some, None, refl}
use Rattle.clock_model.specs.Order.{begin_of}
use Rattle.clocked_layer.proofs.FrameFacts.{held_after, own_of_held}
use Rattle.clocked_layer.proofs.Moves.{InOrder, Marks, Move, Of, is_marked, no_marks}
use Rattle.clocked_layer.specs.Block.{Block, opened_block}
use Rattle.event_queue.specs.declared.event.Event.{Event}
use Rattle.phase_machine.specs.Seats.{Computed, Decided, Finished, Seat, Stage, Told, Waiting}
use Rattle.rcp_base.specs.Message.{Content}
use Rattle.rcp_model.specs.FrameRows.{FrameRows}
use Rattle.rcp_model.specs.Messages.{Letter}
use Rattle.rcp_model.specs.System.{SystemState, ballot_in, computed_cells, fresh_letter}
use Rattle.rcp_model.specs.declared.plan.PlanParts.{PlanParts}

-- the message of a letter that arrives no sooner than a tick
abbrev pub since : ℤ → Option Letter → Option Content
since from None = None
since from (Some letter) = cond (int_le from letter.arrival) (Some letter.message) None

-- what has happened to one replica
pub record Course : Type 0 where
  pub begun : Bool
  pub sent : Bool
  pub voted : Bool
  pub synced : Bool
  pub came : ℕ → Bool
  pub came_late : ℕ → Bool

abbrev pub course_of : Marks → ℕ → Course
course_of marks replica = record {
  begun = marks.begun replica;
  sent = marks.sent replica;
  voted = marks.voted replica;
  synced = marks.synced replica;
  came = marks.came replica;
  came_late = marks.came_late replica;
}

abbrev pub stage_by : Bool → Bool → Bool → Bool → Stage
stage_by begun sent voted synced =
    cond synced Finished (cond voted Decided (cond sent Told (cond begun Computed Waiting)))

module _ (plan : PlanParts) (rows : FrameRows) (state : SystemState) where
  -- what has come since the receiver began, of the frame and of the one before
  abbrev pub in_box : (receiver sender : ℕ) → Bool → Bool → Option Content
  in_box receiver sender came came_late =
      let from = begin_of plan state.done rows receiver in
      option_or
      (cond came (since from (fresh_letter plan state rows receiver sender)) None)
      (cond came_late (since from (state.letters receiver sender)) None)

  -- what one replica has, by what has happened to it
  pub record IsKeptAt (replica : ℕ) (course : Course) (seat : Seat) : Type 0 where
    pub stage : seat.stage ≡ stage_by course.begun course.sent course.voted course.synced
    pub held :
        seat.held ≡ cond course.synced (held_after plan rows state replica) (state.replicas replica)
    pub computed :
        seat.computed
        ≡ cond course.begun (Some (computed_cells plan rows (state.replicas replica))) None
    pub own :
        seat.own
        ≡ cond course.sent (Some (own_of_held plan rows (state.replicas replica))) None
    pub ballot :
        seat.ballot
        ≡ cond course.voted (Some (ballot_in plan state rows replica)) (state.ballots replica)
    pub boxes :
        course.begun ≡ true → (sender : ℕ)
        → seat.boxes sender ≡ in_box replica sender (course.came sender) (course.came_late sender)

  -- what all have, and what is on its way
  pub record IsKept (marks : Marks) (block : Block) : Type 0 where
    pub done : block.done ≡ state.done
    pub seats : (replica : ℕ) → IsKeptAt replica (course_of marks replica) (block.seats replica)
    pub fresh : (receiver sender : ℕ)
        → block.fresh receiver sender
        ≡ cond (marks.came receiver sender) None
        (cond (marks.sent sender) (fresh_letter plan state rows receiver sender) None)
    pub late : (receiver sender : ℕ)
        → block.late receiver sender
        ≡ cond (marks.came_late receiver sender) None (state.letters receiver sender)

  -- an event has not happened, none that is left comes sooner, and none that has happened later
  pub record IsDue (marks : Marks) (move : Move) (event : Event) : Type 0 where
    pub is : Of plan rows state move event
    pub new : is_marked marks move ≡ false
    pub due : (other : Move) (later : Event) → Of plan rows state other later
        → is_marked marks other ≡ false → InOrder event later
    pub past : (other : Move) → is_marked marks other ≡ true
        → (earlier : Event) × Of plan rows state other earlier × InOrder earlier event

  -- every event has happened, and nothing else
  pub record IsAll (marks : Marks) : Type 0 where
    pub all : (move : Move) (event : Event) → Of plan rows state move event
        → is_marked marks move ≡ true
    pub only : (move : Move) → is_marked marks move ≡ true
        → (event : Event) × Of plan rows state move event

  pub at_opening : (boxes : ℕ → ℕ → Option Content)
      → IsKept no_marks (opened_block plan state rows boxes)
  at_opening boxes = record {
    done = refl;
    seats = λ replica. record {
      stage = refl;
      held = refl;
      computed = refl;
      own = refl;
      ballot = refl;
      boxes = λ begun sender. cc;
    };
    fresh = λ receiver sender. refl;
    late = λ receiver sender. refl;
  }
