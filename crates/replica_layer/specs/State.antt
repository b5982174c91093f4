-- What it is for the replicas in one step to be at a state of a plan's system. This project's own.
use Rattle.std.specs.Prelude.{◌≡◌, length}
use Rattle.frame_table.specs.Plan.{IsOf}
use Rattle.rcp_base.specs.Tables.{table}
use Rattle.rcp_model.specs.declared.plan.PlanParts.{PlanParts}
use Rattle.rcp_model.specs.System.{SystemState}
use Rattle.vote_pattern.specs.Votes.{IsPatternOf}
use Rattle.replica_parts.specs.Ballots.{AreBallots}
use Rattle.replica_parts.specs.Places.{command_rows, letter_rows}
use Rattle.replica_parts.specs.Rooms.{AreCommandRows, AreMessages, ArePostRows, AreStates, AreVotePlaces, HaveBallotRoom}
use Rattle.replica_parts.specs.Setting.{IsSettingOf}
use Rattle.replica_layer.specs.declared.replicated.Replicated.{Replicated}

-- each of its places has the room that its setting asks for
pub record HaveRoom (layer : Replicated) : Type 0 where
  pub held : AreStates layer.setting layer.held.items
  pub ballots : HaveBallotRoom layer.setting layer.ballots.items
  pub commands : AreCommandRows layer.setting layer.commands.items
  pub letters : ArePostRows layer.setting layer.letters.items
  pub computed : AreStates layer.setting layer.computed.items
  pub own : AreMessages layer.setting layer.own.items
  pub fresh : ArePostRows layer.setting layer.fresh.items
  pub places : AreVotePlaces layer.setting layer.places.items

-- it keeps what it needs of the plan, and says of each replica what the state says
pub record IsAt (layer : Replicated) (plan : PlanParts) (state : SystemState) : Type 0 where
  pub setting : IsSettingOf plan layer.setting
  pub votes : IsPatternOf plan layer.votes
  pub code : IsOf plan layer.table
  pub room : HaveRoom layer
  pub done : layer.done ≡ state.done
  pub replicas : layer.held.items ≡ table plan.replicas state.replicas
  pub ballots : AreBallots plan.replicas layer.ballots.items state.ballots
  pub commands : command_rows layer.commands.items
      ≡ table plan.replicas (λ replica. table (length plan.actuators) (state.commands replica))
  pub letters : letter_rows layer.letters.items
      ≡ table plan.replicas (λ receiver. table plan.replicas (state.letters receiver))
