-- What stands at the places of a layer that is at a state.
use Rattle.std.proofs.Common.{◌≡◌, ℕ, ◌<◌, List, ◌∙◌, length, get_or, ap, subst, sym, arith}
use Rattle.std.proofs.lemmas.List.{get_or_read}
use Rattle.std.proofs.lemmas.List.Elements.{All-get_or}
use Rattle.rcp_base.proofs.TableLaws.{get_or-table}
use Rattle.rcp_model.specs.declared.plan.PlanParts.{PlanParts}
use Rattle.rcp_model.specs.System.{SystemState}
use Rattle.rcp_model.specs.Uniprocessor.{ProcessorState}
use Rattle.replica_parts.specs.declared.ballot.Ballot.{Ballot}
use Rattle.replica_parts.specs.Ballots.{IsBallotOrNone}
use Rattle.replica_parts.specs.Rooms.{HasBallotRoom}
use Rattle.replica_parts.specs.States.{no_state}
use Rattle.replica_layer.specs.declared.replicated.Replicated.{Replicated}
use Rattle.replica_layer.specs.State.{IsAt}

module _ (layer : Replicated) (plan : PlanParts) (state : SystemState) (h : IsAt layer plan state) (replica : ℕ) (lt : replica < plan.replicas) where
  pub held_is : (one : ProcessorState) → one ≡ get_or layer.held.items replica one → one ≡ state.replicas replica
  held_is one e =
      let inside : replica < length layer.held.items = omega (arith, lt, h.room.held.size, h.setting.replicas) in
      get_or_read layer.held.items replica one inside e no_state
      ∙ ap (λ (xs : List ProcessorState). get_or xs replica no_state) h.replicas
      ∙ get_or-table plan.replicas state.replicas replica no_state lt

  pub ballot_is : (one : Ballot) → one ≡ get_or layer.ballots.items replica one → IsBallotOrNone plan.replicas one (state.ballots replica)
  ballot_is one e = subst (λ (b : Ballot). IsBallotOrNone plan.replicas b (state.ballots replica)) (sym e) (h.ballots replica one lt)

  pub ballot_room : (one : Ballot) → one ≡ get_or layer.ballots.items replica one → HasBallotRoom layer.setting one
  ballot_room one e =
      let inside : replica < length layer.ballots.items = omega (arith, lt, h.room.ballots.size, h.setting.replicas) in
      subst (HasBallotRoom layer.setting) (sym e) (All-get_or (HasBallotRoom layer.setting) layer.ballots.items replica one inside h.room.ballots.each)
