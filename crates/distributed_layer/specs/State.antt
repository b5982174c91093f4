-- What it is for the replicas in phases to be at a state of a plan's system. This project's own.
use Rattle.std.specs.Prelude.{◌≡◌, ℕ, Option, length}
use Rattle.frame_table.specs.Plan.{IsOf}
use Rattle.rcp_base.specs.Message.{Content}
use Rattle.rcp_model.specs.declared.plan.PlanParts.{PlanParts}
use Rattle.rcp_model.specs.System.{SystemState}
use Rattle.vote_pattern.specs.Votes.{IsPatternOf}
use Rattle.phase_machine.specs.Phase.{AllRest}
use Rattle.replica_parts.specs.Places.{post_at}
use Rattle.replica_parts.specs.Rooms.{AreMessages, ArePostRows}
use Rattle.replica_parts.specs.Setting.{IsSettingOf}
use Rattle.distributed_layer.specs.declared.distributed.Distributed.{Distributed}

-- it keeps what it needs of the plan, and has each replica and places for all that they say
pub record IsLayerOf (plan : PlanParts) (layer : Distributed) : Type 0 where
  pub setting : IsSettingOf plan layer.setting
  pub votes : IsPatternOf plan layer.votes
  pub code : IsOf plan layer.table
  pub phases : length layer.phases.items ≡ plan.replicas
  pub letters : ArePostRows layer.setting layer.letters.items
  pub own : AreMessages layer.setting layer.own.items
  pub fresh : ArePostRows layer.setting layer.fresh.items

-- each replica rests with what the state says of it, and with any mailboxes
pub record IsAt (layer : Distributed) (plan : PlanParts) (state : SystemState) : Type 0 where
  pub of_plan : IsLayerOf plan layer
  pub done : layer.done ≡ state.done
  pub replicas : (boxes : ℕ → ℕ → Option Content)
      × AllRest plan layer.phases.items state boxes
  pub letters : post_at layer.letters.items ≡ state.letters
