-- The vote over what stands in a replica's places, once it has sent.
use Rattle.std.proofs.Common.{◌≡◌, ◌<◌, ◌==◌, ℕ, Bool, List, Option, Some, None, cond, get_or, ap, ap₂, arith, subst, ◌∙◌}
use Rattle.rcp_base.specs.Message.{Content}
use Rattle.rcp_base.specs.Tables.{table}
use Rattle.rcp_base.proofs.TableLaws.{get_or-table}
use Rattle.rcp_model.specs.declared.plan.PlanParts.{PlanParts}
use Rattle.rcp_model.specs.Ballot.{ballot_of}
use Rattle.rcp_model.specs.Uniprocessor.{ProcessorState}
use Rattle.replica_parts.proofs.BallotLaws.{ballot_agrees}
use Rattle.replica_parts.specs.declared.ballot.Ballot.{Ballot}
use Rattle.replica_parts.specs.declared.ballot.Heard.{Heard}
use Rattle.replica_parts.specs.Ballots.{IsBallot}
use Rattle.replica_parts.specs.Places.{message_at, messages_in}
use Rattle.phase_machine.specs.Body.{heard_with}
use Rattle.phase_machine.specs.Phases.{HasSent, vote_after}

module _ (plan : PlanParts) (votes : ℕ → ℕ → Bool) (replica : ℕ) (has : HasSent) (place : Ballot)
    (places : List Heard) (n q : ℕ) (computed : ProcessorState) (own : Content)
    (boxes : ℕ → Option Content) (n_is : n ≡ plan.replicas) (q_is : q ≡ replica)
    (computed_is : computed ≡ has.computed) (own_is : own ≡ has.own)
    (boxes_are : boxes ≡ has.boxes)
    (heard_is : messages_in places ≡ table n (heard_with q own boxes)) where
  abbrev heard : ℕ → Option Content
  heard = heard_with replica has.own has.boxes

  with_is : (sender : ℕ) → heard_with q own boxes sender ≡ heard sender
  with_is sender =
      ap (λ (r : ℕ). cond (sender == r) (Some own) (boxes sender)) q_is
      ∙ ap₂ (λ (m : Content) (f : ℕ → Option Content). cond (sender == replica) (Some m) (f sender))
      own_is boxes_are

  hears : (sender : ℕ) → sender < plan.replicas → message_at places sender ≡ heard sender
  hears sender lt =
      ap (λ xs. get_or xs sender None) heard_is
      ∙ get_or-table n (heard_with q own boxes) sender None (omega (arith, lt, n_is))
      ∙ with_is sender

  pub vote_is : IsBallot plan.replicas place
      (ballot_of plan votes computed.slot computed.cells (message_at places))
      → IsBallot plan.replicas place (vote_after plan votes replica has)
  vote_is h =
      subst (λ (x : ProcessorState).
      IsBallot plan.replicas place (ballot_of plan votes x.slot x.cells heard)) computed_is
      (ballot_agrees plan votes computed.slot computed.cells place
      (message_at places) heard hears h)
