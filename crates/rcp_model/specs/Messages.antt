-- What replicas say to each other in a frame, and what of it is heard. After NASA TM-104196.
use Rattle.std.specs.Prelude.{ℕ, ◌==◌, nat_lt, Bool, not, ◌&&◌, ℤ, pos, List, length, slice_index_or, Option, Some, None, unwrap_or, if◌then◌else◌}
use Rattle.std.specs.List.{list_any}
use Rattle.std.specs.Option.{option_or}
use Rattle.rcp_base.specs.Message.{Content, value_in}
use Rattle.rcp_base.specs.Tables.{table}
use Rattle.rcp_model.specs.declared.plan.PlanParts.{PlanParts}
use Rattle.rcp_model.specs.Slot.{no_slot}
use Rattle.rcp_model.specs.FrameRows.{FrameRows, is_down, lie_row, lie_slot_row, is_dropped, skew_of, rate_of, delay_of}
use Rattle.rcp_model.specs.Moments.{send_tick, arrival_tick, is_in_window}

-- the vote pattern has the cell at the slot
unfoldable pub is_voted : PlanParts → ℕ → ℕ → Bool
is_voted plan slot cell = list_any (λ voted. voted == cell) (slice_index_or plan.slots slot no_slot).votes

-- a replica's message: its slot, and the computed values of the cells that these votes have there
unfoldable pub own_message : PlanParts → (ℕ → ℕ → Bool) → ℕ → List ℤ → Content
own_message plan votes slot computed = record {
  slot = slot;
  values = table (length plan.cells) (λ cell. if votes slot cell then Some (slice_index_or computed cell (pos 0)) else None);
}

-- the message as the rows have it for one receiver
unfoldable pub message_to : FrameRows → Content → ℕ → ℕ → Content
message_to rows own sender receiver = record {
  slot = unwrap_or (lie_slot_row rows sender receiver) own.slot;
  values = table (length own.values) (λ cell. option_or (lie_row rows sender receiver cell) (value_in own cell));
}

-- the replica is one of the plan's and not down
abbrev pub is_up : PlanParts → FrameRows → ℕ → Bool
is_up plan rows replica = nat_lt replica plan.replicas && not (is_down rows replica)

-- the sender's message to another replica goes out
unfoldable pub goes_out : PlanParts → FrameRows → ℕ → ℕ → Bool
goes_out plan rows sender receiver =
    is_up plan rows sender && nat_lt receiver plan.replicas && not (sender == receiver) && not (is_dropped rows sender receiver)

-- a message on its way, and the tick at which it arrives
pub record Letter : Type 0 where
  pub arrival : ℤ
  pub message : Content

-- the tick at which the sender's message of a frame arrives
unfoldable pub arrival_of : PlanParts → ℕ → FrameRows → ℕ → ℕ → ℤ
arrival_of plan frame rows sender receiver =
    arrival_tick (send_tick plan.timing frame (skew_of rows sender) (rate_of rows sender)) (delay_of rows sender receiver)

-- what goes out from the sender of this message to a receiver
unfoldable pub letter_to : PlanParts → ℕ → FrameRows → Content → ℕ → ℕ → Option Letter
letter_to plan frame rows own sender receiver =
    if goes_out plan rows sender receiver
    then Some (record { arrival = arrival_of plan frame rows sender receiver; message = message_to rows own sender receiver })
    else None

-- the message of a letter that arrives in the receiver's window of a frame
abbrev pub in_time : PlanParts → ℕ → FrameRows → ℕ → Option Letter → Option Content
in_time plan frame rows receiver None = None
in_time plan frame rows receiver (Some letter) =
    if is_in_window plan.timing frame (skew_of rows receiver) (rate_of rows receiver) letter.arrival then Some letter.message else None

-- what a receiver hears of a sender: its own message as it is, else the letter of this frame, else one of the frame before
unfoldable pub heard_message : PlanParts → ℕ → FrameRows → ℕ → ℕ → Content → Option Letter → Option Letter → Option Content
heard_message plan frame rows receiver sender own fresh late =
    if sender == receiver then Some own
    else option_or (in_time plan frame rows receiver fresh) (in_time plan frame rows receiver late)
