-- What a machine over all replicas has of a state, and of a block that is open. This project's own.
use Rattle.std.specs.Prelude.{◌≡◌, ◌<◌, length, None}
use Rattle.clocked_layer.specs.Block.{Block}
use Rattle.clocked_layer.specs.Stepped.{Mail}
use Rattle.clocked_layer.specs.declared.machine.Machine.{Machine}
use Rattle.frame_table.specs.Plan.{IsOf}
use Rattle.phase_machine.specs.Phase.{AllRest, AllShow}
use Rattle.rcp_base.specs.declared.TheConstants.{MAX_FRAMES}
use Rattle.rcp_model.specs.FrameLimits.{IsFrameOf}
use Rattle.rcp_model.specs.FrameRows.{FrameRows}
use Rattle.rcp_model.specs.System.{SystemState}
use Rattle.rcp_model.specs.declared.plan.PlanParts.{PlanParts}
use Rattle.replica_parts.specs.Places.{post_at}
use Rattle.replica_parts.specs.Rooms.{ArePostRows, HasRoom}
use Rattle.replica_parts.specs.Setting.{IsSettingOf}
use Rattle.vote_pattern.specs.Votes.{IsPatternOf}

-- it keeps what it needs of a plan, and its places have the room that the plan asks for
pub record IsMachineOf (plan : PlanParts) (machine : Machine) : Type 0 where
  pub setting : IsSettingOf plan machine.setting
  pub timing : machine.timing ≡ plan.timing
  pub votes : IsPatternOf plan machine.votes
  pub code : IsOf plan machine.table
  pub phases : length machine.phases.items ≡ plan.replicas
  pub own : HasRoom machine.setting machine.own
  pub fresh : ArePostRows machine.setting machine.fresh.items
  pub late : ArePostRows machine.setting machine.late.items

-- no block is open: it is at a state, with this mail
pub record IsMachineAt (machine : Machine) (plan : PlanParts) (state : SystemState) (mail : Mail)
    : Type 0 where
  pub of_plan : IsMachineOf plan machine
  pub done : state.done ≡ machine.done
  pub phases : AllRest plan machine.phases.items state mail
  pub fresh : post_at machine.fresh.items ≡ (λ receiver sender. None)
  pub late : post_at machine.late.items ≡ state.letters

-- a block is open with these rows: it has all of the block but the events that are left
pub record ShowsBlock (machine : Machine) (plan : PlanParts) (rows : FrameRows) (block : Block)
    : Type 0 where
  pub of_plan : IsMachineOf plan machine
  pub frame : IsFrameOf plan rows
  pub done : block.done ≡ machine.done
  pub more : machine.done < MAX_FRAMES
  pub seats : AllShow plan rows machine.phases.items block.seats
  pub fresh : post_at machine.fresh.items ≡ block.fresh
  pub late : post_at machine.late.items ≡ block.late

-- a block is open with these rows, whichever it is
abbrev pub ShowsSome : Machine → FrameRows → Type 0
ShowsSome machine rows =
    (plan : PlanParts) × (block : Block) × ShowsBlock machine plan rows block
