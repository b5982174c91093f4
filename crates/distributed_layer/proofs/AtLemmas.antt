-- What a replica of a layer that is at a state rests with.
use Rattle.std.proofs.Common.{◌≡◌, ℕ, ◌<◌, length, get_or, sym, subst, arith}
use Rattle.std.proofs.lemmas.List.{get_or_read}
use Rattle.rcp_model.specs.declared.plan.PlanParts.{PlanParts}
use Rattle.rcp_model.specs.System.{SystemState}
use Rattle.phase_machine.specs.Phase.{RestsPhase}
use Rattle.phase_machine.specs.Phases.{BeforeFrame, part_of}
use Rattle.phase_machine.specs.declared.phase.Phase.{Phase}
use Rattle.phase_machine.specs.declared.phase.Phase.TheVariants.{Moving}
use Rattle.distributed_layer.specs.declared.distributed.Distributed.{Distributed}
use Rattle.distributed_layer.specs.State.{IsAt}

module _ (layer : Distributed) (plan : PlanParts) (state : SystemState)
    (at : IsAt layer plan state) (replica : ℕ) where
  abbrev pub part : BeforeFrame
  part = part_of state replica (at.replicas.0 replica)

  pub rests : replica < plan.replicas → (one : Phase)
      → one ≡ get_or layer.phases.items replica one → RestsPhase plan replica one part
  rests lt one e =
      let inside : replica < length layer.phases.items = omega (arith, lt, at.of_plan.phases) in
      subst (λ (phase : Phase). RestsPhase plan replica phase part)
      (sym (get_or_read layer.phases.items replica one inside e Moving))
      (at.replicas.1 replica inside)
