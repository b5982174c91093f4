-- What follows from the block of a frame, for every order of its events. This project's own.
use Rattle.std.specs.Prelude.{◌≡◌, ℕ, List, [], Option}
use Rattle.clocked_layer.specs.Block.{state_after_log}
use Rattle.clocked_layer.specs.Events.{IsLegalLog, block_events}
use Rattle.clocked_layer.specs.Ready.{IsReady}
use Rattle.clocked_layer.specs.Way.{EndsAsNext, StaysUnderWay, IsUnderWay, block_so_far}
use Rattle.event_queue.specs.Agenda.{IsDueIn, in_turn}
use Rattle.event_queue.specs.Picker.{picked_order}
use Rattle.event_queue.specs.declared.event.Event.{Event}
use Rattle.rcp_base.specs.Message.{Content}
use Rattle.rcp_model.specs.FrameLimits.{IsFrameOf}
use Rattle.rcp_model.specs.FrameRows.{FrameRows}
use Rattle.rcp_model.specs.System.{SystemState, initial_state, next_state}
use Rattle.rcp_model.specs.TimingRules.{AreInRange, KeepsRules}
use Rattle.rcp_model.specs.declared.plan.PlanParts.{PlanParts}

-- every legal log leads to the same state, that of the next frame, whatever the mailboxes held
abbrev pub EveryInterleavingAgrees : Type 0
EveryInterleavingAgrees =
    (plan : PlanParts) (state : SystemState) (rows : FrameRows)
    (boxes : ℕ → ℕ → Option Content) (log : List Event)
    → AreInRange plan.timing → KeepsRules plan.timing → IsFrameOf plan rows → IsReady plan state
    → IsLegalLog plan state rows log
    → state_after_log plan state rows boxes log ≡ next_state plan state rows

-- before the first frame every system is ready
abbrev pub EverySystemBeginsReady : Type 0
EverySystemBeginsReady = (plan : PlanParts) → IsReady plan (initial_state plan)

-- and after any frame of its plan it is ready for the next
abbrev pub EveryFrameLeavesReady : Type 0
EveryFrameLeavesReady =
    (plan : PlanParts) (state : SystemState) (rows : FrameRows)
    → AreInRange plan.timing → KeepsRules plan.timing → IsFrameOf plan rows
    → IsReady plan (next_state plan state rows)

-- whatever answers choose among the events that are due, their order is a legal log
abbrev pub EveryOrderIsLegal : Type 0
EveryOrderIsLegal =
    (plan : PlanParts) (state : SystemState) (rows : FrameRows) (answers : ℕ → ℕ)
    → IsLegalLog plan state rows (picked_order (in_turn (block_events plan state rows)) answers)

-- the block of a frame of a plan is under way before its first event
abbrev pub EveryBlockOpens : Type 0
EveryBlockOpens =
    (plan : PlanParts) (state : SystemState) (rows : FrameRows) (boxes : ℕ → ℕ → Option Content)
    → AreInRange plan.timing → KeepsRules plan.timing → IsFrameOf plan rows → IsReady plan state
    → IsUnderWay plan state rows boxes []

-- it goes on by each event that is due
abbrev pub EveryDueEventGoesOn : Type 0
EveryDueEventGoesOn =
    (plan : PlanParts) (state : SystemState) (rows : FrameRows) (boxes : ℕ → ℕ → Option Content)
    (log : List Event) (event : Event)
    → IsUnderWay plan state rows boxes log
    → IsDueIn (block_so_far plan state rows boxes log).left event
    → StaysUnderWay plan state rows boxes log event

-- and it ends where none is left
abbrev pub EveryBlockEnds : Type 0
EveryBlockEnds =
    (plan : PlanParts) (state : SystemState) (rows : FrameRows) (boxes : ℕ → ℕ → Option Content)
    (log : List Event)
    → IsUnderWay plan state rows boxes log → (block_so_far plan state rows boxes log).left ≡ []
    → EndsAsNext plan state rows boxes log
