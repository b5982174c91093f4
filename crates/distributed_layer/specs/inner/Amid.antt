-- How the layer stands amid a frame. This project's own.
use Rattle.std.specs.Prelude.{◌≡◌, ◌<◌, ℕ, Option, true, List, length}
use Rattle.std.specs.Option.{option_or}
use Rattle.mailbox.specs.Mailboxes.{put}
use Rattle.rcp_base.specs.Message.{Content}
use Rattle.rcp_base.specs.declared.TheConstants.{MAX_FRAMES}
use Rattle.rcp_model.specs.declared.plan.PlanParts.{PlanParts}
use Rattle.rcp_model.specs.FrameLimits.{IsFrameOf}
use Rattle.rcp_model.specs.FrameRows.{FrameRows}
use Rattle.rcp_model.specs.Messages.{Letter, in_time, is_up}
use Rattle.rcp_model.specs.System.{SystemState}
use Rattle.phase_machine.specs.Phase.{AllRest, AllShow}
use Rattle.phase_machine.specs.Seats.{Seat, Stage}
use Rattle.phase_machine.specs.declared.phase.Phase.{Phase}
use Rattle.replica_parts.specs.Places.{post_at}
use Rattle.replica_parts.specs.Setting.{IsSettingOf}
use Rattle.replica_parts.specs.declared.setting.Setting.{Setting}
use Rattle.distributed_layer.specs.declared.distributed.Distributed.{Distributed}
use Rattle.distributed_layer.specs.State.{IsLayerOf}
use Rattle.distributed_layer.specs.Together.{letters_together, state_together}

-- the replicas of a plan show these seats, in a frame of it
pub record ShowSeats (plan : PlanParts) (setting : Setting) (rows : FrameRows)
    (phases : List Phase) (seats : ℕ → Seat) : Type 0 where
  pub of_plan : IsSettingOf plan setting
  pub frame : IsFrameOf plan rows
  pub size : length phases ≡ plan.replicas
  pub show : AllShow plan rows phases seats

-- a replica, if it is up, has come to a stage
abbrev pub IsUpAt : PlanParts → FrameRows → Stage → (ℕ → Seat) → ℕ → Type 0
IsUpAt plan rows stage seats replica =
    is_up plan rows replica ≡ true → (seats replica).stage ≡ stage

-- each that is up has
abbrev pub AreUpAt : PlanParts → FrameRows → Stage → (ℕ → Seat) → Type 0
AreUpAt plan rows stage seats = (replica : ℕ) → IsUpAt plan rows stage seats replica

-- a letter of one sender comes to a receiver, if it lies in its window
abbrev pub filled_by : PlanParts → ℕ → FrameRows → ℕ → ℕ → Option Letter → Seat → Seat
filled_by plan frame rows receiver sender letter seat = record seat {
  boxes = put seat.boxes sender
      (option_or (in_time plan frame rows receiver letter) (seat.boxes sender));
}

-- amid the frame after a state: the letters that went out, and the seats of the replicas
pub record IsAmid (layer : Distributed) (plan : PlanParts) (state : SystemState)
    (rows : FrameRows) (fresh : ℕ → ℕ → Option Letter) (seats : ℕ → Seat) : Type 0 where
  pub of_plan : IsLayerOf plan layer
  pub frame : IsFrameOf plan rows
  pub limit : layer.done < MAX_FRAMES
  pub done : layer.done ≡ state.done
  pub late_letters : post_at layer.letters.items ≡ state.letters
  pub fresh_letters : post_at layer.fresh.items ≡ fresh
  pub replicas : AllShow plan rows layer.phases.items seats

-- at the end of that frame, when the replicas have come to rest
pub record HasSynced (layer : Distributed) (plan : PlanParts) (state : SystemState)
    (rows : FrameRows) (boxes : ℕ → ℕ → Option Content) : Type 0 where
  pub of_plan : IsLayerOf plan layer
  pub limit : layer.done < MAX_FRAMES
  pub done : layer.done ≡ state.done
  pub fresh_letters : post_at layer.fresh.items ≡ letters_together plan state rows boxes
  pub replicas : (after : ℕ → ℕ → Option Content)
      × AllRest plan layer.phases.items (state_together plan state rows boxes) after
