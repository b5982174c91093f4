-- A block on its way through its events. This project's own.
use Rattle.std.specs.Prelude.{◌≡◌, ℕ, ◌<◌, List, [], ◌∷◌, ◌++◌, Option, if◌then◌else◌, ⊤}
use Rattle.clocked_layer.specs.Block.{Block, block_after_event, block_after_log, closed_state, opened_block}
use Rattle.clocked_layer.specs.Events.{IsLegalLog}
use Rattle.clocked_layer.specs.Ready.{IsTimely}
use Rattle.event_queue.specs.Agenda.{InTurn}
use Rattle.event_queue.specs.declared.event.Event.{Event}
use Rattle.event_queue.specs.declared.event.EventKind.{EventKind}
use Rattle.event_queue.specs.declared.event.EventKind.TheVariants.{Begin, Deliver, Send, Sync, Vote}
use Rattle.phase_machine.specs.Seats.{Computed, Decided, Finished, Stage, Told, Waiting}
use Rattle.rcp_base.specs.Message.{Content}
use Rattle.rcp_model.specs.FrameRows.{FrameRows}
use Rattle.rcp_model.specs.Messages.{is_up}
use Rattle.rcp_model.specs.System.{SystemState, next_state}
use Rattle.rcp_model.specs.declared.plan.PlanParts.{PlanParts}

-- the stage at which an event of a replica's own finds it
abbrev pub StageFor : EventKind → Stage → Type 0
StageFor Begin stage = stage ≡ Waiting
StageFor Send stage = stage ≡ Computed
StageFor Deliver stage = ⊤
StageFor Vote stage = stage ≡ Told
StageFor Sync stage = stage ≡ Decided

-- the block of the frame after a state, after a log
abbrev pub block_so_far : PlanParts → SystemState → FrameRows → (ℕ → ℕ → Option Content)
    → List Event → Block
block_so_far plan state rows boxes log =
    block_after_log plan rows (opened_block plan state rows boxes) log

-- after a log so far, of a frame whose moments keep their order, what is left stands in turn and
-- makes the log a legal one
pub record IsUnderWay (plan : PlanParts) (state : SystemState) (rows : FrameRows)
    (boxes : ℕ → ℕ → Option Content) (log : List Event) : Type 0 where
  pub timely : IsTimely plan rows state
  pub legal : IsLegalLog plan state rows (log ++ (block_so_far plan state rows boxes log).left)
  pub turn : InTurn (block_so_far plan state rows boxes log).left

-- an event and its replicas are those of a plan, and it finds its replica at its stage
pub record FindsReplica (plan : PlanParts) (block : Block) (event : Event) : Type 0 where
  pub replica : event.replica < plan.replicas
  pub other : event.other < plan.replicas
  pub stage : StageFor event.kind (block.seats event.replica).stage

-- a due event finds its replica, and after it the block is under way again
pub record StaysUnderWay (plan : PlanParts) (state : SystemState) (rows : FrameRows)
    (boxes : ℕ → ℕ → Option Content) (log : List Event) (event : Event) : Type 0 where
  pub finds : FindsReplica plan (block_so_far plan state rows boxes log) event
  pub block :
      block_so_far plan state rows boxes (log ++ event ∷ [])
      ≡ block_after_event plan rows (block_so_far plan state rows boxes log) event
  pub way : IsUnderWay plan state rows boxes (log ++ event ∷ [])

-- where no event is left the log is legal, who is up has finished, who is down has not begun, and
-- the state is that of the next frame
pub record EndsAsNext (plan : PlanParts) (state : SystemState) (rows : FrameRows)
    (boxes : ℕ → ℕ → Option Content) (log : List Event) : Type 0 where
  pub legal : IsLegalLog plan state rows log
  pub stages : (replica : ℕ)
      → ((block_so_far plan state rows boxes log).seats replica).stage
      ≡ (if is_up plan rows replica then Finished else Waiting)
  pub next :
      closed_state plan rows (block_so_far plan state rows boxes log) ≡ next_state plan state rows
