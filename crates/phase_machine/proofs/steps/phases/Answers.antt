use Rattle.phase_machine.proofs.StepLemmas.{one_more}
use Rattle.phase_machine.specs.Phase.{RestsPhase}
use Rattle.phase_machine.specs.Phases.{part_of}
use Rattle.phase_machine.specs.declared.phase.Phase.{Phase}
use Rattle.rcp_model.specs.System.{initial_state}
use Rattle.rcp_model.specs.declared.plan.PlanParts.{PlanParts}
use Rattle.std.proofs.Common.{None, ap, arith, length, subst, sym, ℕ, ◌+◌, ◌≡◌, ◌∙◌}
use Rattle.std.proofs.lemmas.List.{length-append}
use Rattle.phase_machine.proofs.steps.phases.Goals as goal

abbrev RestsAtFirst : PlanParts → ℕ → Phase → Type 0
RestsAtFirst plan q x =
    RestsPhase plan q x (part_of (initial_state plan) q (λ (sender : ℕ). None))

pub loop-replica-init : goal.loop-replica-init
loop-replica-init c =
    let none : length c.new-phases.result.items ≡ 0 = ap length c.new-phases.ensures.items in
    record { size = none; rest = λ k below. absurd (omega (arith, below, none)) }

pub loop-replica-preserved : goal.loop-replica-preserved
loop-replica-preserved c =
    let plan = c.args.plan.now in
    let before = c.loop-replica.invariant in
    let more : length c.push.new.self.items ≡ length c.loop-replica.phases.items + 1 =
    ap length c.in_ok-push.ensures.items ∙ length-append c.loop-replica.phases.items _ in
    record {
      size = more ∙ ap (λ (n : ℕ). n + 1) before.size;
      rest = λ k below.
          one_more (RestsAtFirst plan) _ _ c.in_ok-new.field-0 before.rest
          (subst (λ (n : ℕ). RestsAtFirst plan n c.in_ok-new.field-0) (sym before.size)
          c.in_ok-new.ensures)
          c.in_ok-push.ensures.items k (omega (arith, below, more));
    }

pub returns-clause-rest : goal.returns-clause-rest
returns-clause-rest c = c.loop-replica.invariant.rest

pub returns-clause-size : goal.returns-clause-size
returns-clause-size c =
    let all = ap (λ (p : PlanParts). p.replicas) c.parts.ensures.parts in
    omega (
      arith,
      c.loop-replica-test.false,
      c.loop-replica.auto.replica-end,
      c.loop-replica.invariant.size,
      all,
    )
