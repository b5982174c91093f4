-- The events of a frame's block, and the logs that are legal.
-- After NASA TM-104196; the order of events at one tick is this project's own.
use Rattle.std.specs.Prelude.{ℕ, ◌+◌, ◌-◌, List, [], ◌∷◌, ◌++◌, Option, Some, None, ℤ, int_lt, if◌then◌else◌}
use Rattle.std.specs.List.{flat_map, range_with_len}
use Rattle.clock_model.specs.Order.{begin_of, block_begin, send_of, sync_of, vote_of}
use Rattle.event_queue.specs.Event.{IsLogOf}
use Rattle.event_queue.specs.declared.event.Event.{Event}
use Rattle.event_queue.specs.declared.event.EventKind.{EventKind}
use Rattle.event_queue.specs.declared.event.EventKind.TheVariants.{Begin, Deliver, Send, Sync, Vote}
use Rattle.rcp_model.specs.FrameRows.{FrameRows}
use Rattle.rcp_model.specs.Messages.{Letter, is_up}
use Rattle.rcp_model.specs.System.{SystemState, fresh_letter}
use Rattle.rcp_model.specs.declared.plan.PlanParts.{PlanParts}

-- an event of a replica's own
abbrev pub own_event : EventKind → ℕ → ℕ → ℤ → Event
own_event kind frame replica tick =
    record { tick = tick; kind = kind; replica = replica; other = 0; frame = frame }

-- the four events of a replica's own, where it is up
abbrev pub own_events : PlanParts → ℕ → FrameRows → ℕ → List Event
own_events plan frame rows replica =
    if is_up plan rows replica
    then own_event Begin frame replica (begin_of plan frame rows replica)
    ∷ own_event Send frame replica (send_of plan frame rows replica)
    ∷ own_event Vote frame replica (vote_of plan frame rows replica)
    ∷ own_event Sync frame replica (sync_of plan frame rows replica)
    ∷ []
    else []

-- the sender's message of a frame comes to the receiver
abbrev pub delivery : ℕ → ℕ → ℕ → ℤ → Event
delivery frame receiver sender tick =
    record { tick = tick; kind = Deliver; replica = receiver; other = sender; frame = frame }

-- a letter of this frame is delivered in the block if it arrives before the block ends
abbrev pub fresh_events : PlanParts → ℕ → ℕ → ℕ → Option Letter → List Event
fresh_events plan frame receiver sender None = []
fresh_events plan frame receiver sender (Some letter) =
    if int_lt letter.arrival (block_begin plan (frame + 1))
    then delivery frame receiver sender letter.arrival ∷ []
    else []

-- a letter of the frame before is delivered in any case
abbrev pub late_events : ℕ → ℕ → ℕ → Option Letter → List Event
late_events frame receiver sender None = []
late_events frame receiver sender (Some letter) =
    delivery (frame - 1) receiver sender letter.arrival ∷ []

-- what comes to a receiver from a sender
abbrev pub events_from : PlanParts → SystemState → FrameRows → ℕ → ℕ → List Event
events_from plan state rows receiver sender =
    fresh_events plan state.done receiver sender (fresh_letter plan state rows receiver sender)
    ++ late_events state.done receiver sender (state.letters receiver sender)

-- what happens at a replica
abbrev pub events_at : PlanParts → SystemState → FrameRows → ℕ → List Event
events_at plan state rows replica =
    own_events plan state.done rows replica
    ++ flat_map (events_from plan state rows replica) (range_with_len 0 plan.replicas)

-- the events of the block of the frame after a state
abbrev pub block_events : PlanParts → SystemState → FrameRows → List Event
block_events plan state rows =
    flat_map (events_at plan state rows) (range_with_len 0 plan.replicas)

-- a log has each event of the block once, and its ticks, and the kinds at one tick, never fall
abbrev pub IsLegalLog : PlanParts → SystemState → FrameRows → List Event → Type 0
IsLegalLog plan state rows log = IsLogOf (block_events plan state rows) log
