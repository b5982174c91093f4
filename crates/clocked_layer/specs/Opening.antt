-- What the opening of a block rests on, and what it does to the agenda. This project's own.
use Rattle.std.specs.Prelude.{◌≡◌, ◌==◌, ℕ, ℤ, ◌+◌, ◌<◌, ◌≤◌, false, not, List, [], ◌∷◌, length, Option, None, Some, IfSome, if◌then◌else◌}
use Rattle.std.specs.List.{flat_map, range_with_len}
use Rattle.clock_model.specs.Order.{begin_of, block_begin, send_of, sync_of, vote_of}
use Rattle.clocked_layer.specs.Events.{events_from, own_event}
use Rattle.clocked_layer.specs.declared.ticks.BlockTicks.{BlockTicks}
use Rattle.clocked_layer.specs.declared.ticks.Moment.{Moment}
use Rattle.clocked_layer.specs.declared.ticks.Moment.TheVariants.{Begins, Sends, Syncs, Votes}
use Rattle.event_queue.specs.Agenda.{EventQueue}
use Rattle.event_queue.specs.declared.event.Event.{Event}
use Rattle.event_queue.specs.declared.event.EventKind.{EventKind}
use Rattle.event_queue.specs.declared.event.EventKind.TheVariants.{Begin, Send, Sync, Vote}
use Rattle.rcp_model.specs.Messages.{arrival_of, goes_out, is_up}
use Rattle.rcp_model.specs.System.{SystemState}
use Rattle.rcp_model.specs.FrameLimits.{IsFrameOf}
use Rattle.rcp_model.specs.FrameRows.{FrameRows, is_down}
use Rattle.rcp_model.specs.Plan.{IsPlan}
use Rattle.rcp_model.specs.declared.plan.PlanParts.{PlanParts}
use Rattle.rcp_model.specs.declared.plan.Timing.{Timing}
use Rattle.replica_parts.specs.Setting.{IsSettingOf}
use Rattle.replica_parts.specs.declared.setting.Setting.{Setting}

-- a timing is that of some plan, of a frame of which these are the rows
abbrev pub IsTimingWith : Timing → FrameRows → Type 0
IsTimingWith timing rows =
    (plan : PlanParts) × IsPlan plan × (plan.timing ≡ timing) × IsFrameOf plan rows

-- where a replica comes to a moment of its own
abbrev pub tick_of : PlanParts → ℕ → FrameRows → Moment → ℕ → ℤ
tick_of plan frame rows Begins replica = begin_of plan frame rows replica
tick_of plan frame rows Sends replica = send_of plan frame rows replica
tick_of plan frame rows Votes replica = vote_of plan frame rows replica
tick_of plan frame rows Syncs replica = sync_of plan frame rows replica

-- the kind of the event that it is
abbrev pub kind_of : Moment → EventKind
kind_of Begins = Begin
kind_of Sends = Send
kind_of Votes = Vote
kind_of Syncs = Sync

-- that event
abbrev pub moment_event : PlanParts → ℕ → FrameRows → Moment → ℕ → Event
moment_event plan frame rows moment replica =
    own_event (kind_of moment) frame replica (tick_of plan frame rows moment replica)

-- that event, where the replica is up
abbrev pub moment_at : PlanParts → ℕ → FrameRows → Moment → ℕ → List Event
moment_at plan frame rows moment replica =
    if is_up plan rows replica then moment_event plan frame rows moment replica ∷ [] else []

-- the events of one moment, by replica
abbrev pub moment_events : PlanParts → ℕ → FrameRows → Moment → List Event
moment_events plan frame rows moment =
    flat_map (moment_at plan frame rows moment) (range_with_len 0 plan.replicas)

-- what comes to one receiver, by sender
abbrev pub deliveries_to : PlanParts → SystemState → FrameRows → ℕ → List Event
deliveries_to plan state rows receiver =
    flat_map (events_from plan state rows receiver) (range_with_len 0 plan.replicas)

-- what comes to all receivers
abbrev pub deliveries : PlanParts → SystemState → FrameRows → List Event
deliveries plan state rows =
    flat_map (deliveries_to plan state rows) (range_with_len 0 plan.replicas)

-- no replica is down, and all come to a moment at this tick
pub record ComeTogether (timing : Timing) (frame : ℕ) (rows : FrameRows) (moment : Moment)
    (tick : ℤ) : Type 0 where
  pub up : (replica : ℕ) → is_down rows replica ≡ false
  pub comes : (plan : PlanParts) (replica : ℕ) → plan.timing ≡ timing
      → tick ≡ tick_of plan frame rows moment replica

-- each message goes to every other replica, and all arrive at this tick
pub record ArriveTogether (setting : Setting) (frame : ℕ) (rows : FrameRows) (tick : ℤ)
    : Type 0 where
  pub goes : (plan : PlanParts) (sender receiver : ℕ) → IsSettingOf plan setting
      → sender < plan.replicas → receiver < plan.replicas
      → goes_out plan rows sender receiver ≡ not (sender == receiver)
  pub arrives : (plan : PlanParts) (sender receiver : ℕ) → IsSettingOf plan setting
      → tick ≡ arrival_of plan frame rows sender receiver

-- the tick at which a block ends and, where it is told, the one at which all its messages arrive
pub record AreTicksOf (setting : Setting) (frame : ℕ) (rows : FrameRows) (ticks : BlockTicks)
    : Type 0 where
  pub end : (plan : PlanParts) → IsSettingOf plan setting
      → ticks.end ≡ block_begin plan (frame + 1)
  pub arrival : IfSome ticks.arrival (ArriveTogether setting frame rows)

-- when the sender's message arrives, if it goes out
abbrev pub arrival_in : PlanParts → ℕ → FrameRows → ℕ → ℕ → Option ℤ
arrival_in plan frame rows sender receiver =
    if goes_out plan rows sender receiver
    then Some (arrival_of plan frame rows sender receiver)
    else None

-- an agenda has at most so many events more, and the less room
pub record AddsUpTo (limit : ℕ) (old new : EventQueue) : Type 0 where
  pub few : old.spare ≤ new.spare + limit
  pub room : new.spare + length new.left ≡ old.spare + length old.left
