-- A frame in which all replicas go through each phase together. After NASA TM-102716.
use Rattle.std.specs.Prelude.{ℕ, Option, None, if◌then◌else◌}
use Rattle.std.specs.Option.{option_and_then, option_or}
use Rattle.rcp_base.specs.Message.{Content}
use Rattle.rcp_model.specs.declared.plan.PlanParts.{PlanParts}
use Rattle.rcp_model.specs.FrameRows.{FrameRows}
use Rattle.rcp_model.specs.Messages.{Letter, in_time, is_up, letter_to}
use Rattle.rcp_model.specs.System.{SystemState, end_of_frame, still_on_its_way}
use Rattle.phase_machine.specs.Seats.{Seat, begun_seat, sent_seat, synced_seat, voted_seat, waiting_seat}

-- each replica that is up takes a step
abbrev pub all_up : PlanParts → FrameRows → (ℕ → Seat → Seat) → (ℕ → Seat) → ℕ → Seat
all_up plan rows step seats replica =
    if is_up plan rows replica then step replica (seats replica) else seats replica

-- mailboxes after the letters have come that lie in the receiver's window, by sender
abbrev pub boxes_after : PlanParts → ℕ → FrameRows → ℕ
    → (ℕ → Option Letter) → (ℕ → Option Content) → ℕ → Option Content
boxes_after plan frame rows receiver letters boxes sender =
    option_or (in_time plan frame rows receiver (letters sender)) (boxes sender)

-- those letters come to a receiver
abbrev pub filled_seat : PlanParts → ℕ → FrameRows → ℕ → (ℕ → Option Letter) → Seat → Seat
filled_seat plan frame rows receiver letters seat =
    record seat { boxes = boxes_after plan frame rows receiver letters seat.boxes }

-- they come to each replica, also to one that is down
abbrev pub all_filled : PlanParts → ℕ → FrameRows
    → (ℕ → ℕ → Option Letter) → (ℕ → Seat) → ℕ → Seat
all_filled plan frame rows letters seats replica =
    filled_seat plan frame rows replica (letters replica) (seats replica)

-- the letters that go out of what was sent, by receiver and sender
abbrev pub letters_of : PlanParts → ℕ → FrameRows → (ℕ → Seat) → ℕ → ℕ → Option Letter
letters_of plan frame rows seats receiver sender =
    option_and_then (λ own. letter_to plan frame rows own sender receiver) (seats sender).own

-- all compute that wait for the frame after a state, whatever lies in their mailboxes
abbrev pub begun_together : PlanParts → SystemState → FrameRows
    → (ℕ → ℕ → Option Content) → ℕ → Seat
begun_together plan state rows boxes =
    all_up plan rows (λ replica. begun_seat plan rows)
    (λ replica. waiting_seat state replica (boxes replica))

-- all send
abbrev pub sent_together : PlanParts → SystemState → FrameRows
    → (ℕ → ℕ → Option Content) → ℕ → Seat
sent_together plan state rows boxes =
    all_up plan rows (λ replica. sent_seat plan) (begun_together plan state rows boxes)

-- the letters of the frame
abbrev pub letters_together : PlanParts → SystemState → FrameRows
    → (ℕ → ℕ → Option Content) → ℕ → ℕ → Option Letter
letters_together plan state rows boxes =
    letters_of plan state.done rows (sent_together plan state rows boxes)

-- the letters of the frame before come, and then those of this one
abbrev pub filled_together : PlanParts → SystemState → FrameRows
    → (ℕ → ℕ → Option Content) → ℕ → Seat
filled_together plan state rows boxes =
    all_filled plan state.done rows (letters_together plan state rows boxes)
    (all_filled plan state.done rows state.letters (sent_together plan state rows boxes))

-- all vote
abbrev pub voted_together : PlanParts → SystemState → FrameRows
    → (ℕ → ℕ → Option Content) → ℕ → Seat
voted_together plan state rows boxes =
    all_up plan rows (voted_seat plan) (filled_together plan state rows boxes)

-- all sync
abbrev pub synced_together : PlanParts → SystemState → FrameRows
    → (ℕ → ℕ → Option Content) → ℕ → Seat
synced_together plan state rows boxes =
    all_up plan rows (λ replica. synced_seat plan) (voted_together plan state rows boxes)

-- the state after such a frame, with the letters that are still on their way
abbrev pub state_together : PlanParts → SystemState → FrameRows
    → (ℕ → ℕ → Option Content) → SystemState
state_together plan state rows boxes =
    let seats = synced_together plan state rows boxes in
    end_of_frame plan state.done rows (λ replica. (seats replica).held)
    (λ replica. if is_up plan rows replica then (seats replica).ballot else None)
    (λ receiver sender.
    still_on_its_way plan state.done (letters_together plan state rows boxes receiver sender))
