-- What a replica owns through all phases of a frame. This project's own.
use Rattle.std.specs.Prelude.{◌≡◌, ◌<◌, ◌==◌, ℕ, ℤ, length, Option, Some, if◌then◌else◌}
use Rattle.std.specs.Option.{option_or}
use Rattle.rcp_base.specs.Message.{Content}
use Rattle.mailbox.specs.Mailboxes.{AreSized}
use Rattle.rcp_model.specs.declared.plan.PlanParts.{PlanParts}
use Rattle.rcp_model.specs.FrameRows.{FrameRows, act_row}
use Rattle.replica_parts.specs.Rooms.{AreVotePlaces, HasBallotRoom, HasCells, HasRoom}
use Rattle.replica_parts.specs.Setting.{IsSettingOf}
use Rattle.phase_machine.specs.declared.body.Body.{Body}

-- each of its places has the room that its setting asks for
pub record HasBodyRoom (body : Body) : Type 0 where
  pub replica : body.replica < body.setting.replicas
  pub held : HasCells body.setting body.held
  pub computed : HasCells body.setting body.computed
  pub own : HasRoom body.setting body.own
  pub boxes : AreSized body.setting.replicas body.setting.cells body.boxes
  pub ballot : HasBallotRoom body.setting body.ballot
  pub commands : length body.commands.items ≡ body.setting.actuators
  pub places : AreVotePlaces body.setting body.places.items

-- it belongs to a replica of a plan
pub record IsBodyOf (plan : PlanParts) (replica : ℕ) (body : Body) : Type 0 where
  pub setting : IsSettingOf plan body.setting
  pub number : body.replica ≡ replica
  pub room : HasBodyRoom body

-- what a replica hears: its own message, and what stands in its mailboxes
abbrev pub heard_with : ℕ → Content → (ℕ → Option Content) → ℕ → Option Content
heard_with replica own boxes sender = if sender == replica then Some own else boxes sender

-- a replica's commands as rows have them: by a row, else these
abbrev pub commands_after_rows : FrameRows → ℕ → (ℕ → Option ℤ) → ℕ → Option ℤ
commands_after_rows rows replica commands actuator =
    option_or (act_row rows replica actuator) (commands actuator)
