use Rattle.std.proofs.Common.{take, ap, ◌∙◌, arith}
use Rattle.std.specs.Ordering.{int_eq}
use Rattle.rcp_base.specs.Majority.{majority_of}
use Rattle.rcp_model.specs.declared.plan.PlanParts.{PlanParts}
use Rattle.rcp_model.specs.Command.{voted_command}
use Rattle.rcp_model.specs.System.{actuator_vote}
use Rattle.layer_stack.proofs.RunLemmas.{first_places}
use Rattle.layer_stack.proofs.run.voted_command.Goals as goal

pub returns : goal.returns
unfolding actuator_vote voted_command
returns g c = λ state at.
    let same = ap (λ (parts : PlanParts). parts.replicas) c.parts.ensures.parts in
    let past_last = c.loop-replica-test.false in
    let few = c.parts.ensures.rules.few_replicas in
    c.majority.ensures
    ∙ ap (λ n. majority_of int_eq (take n c.loop-replica.commands)) same
    ∙ ap (majority_of int_eq)
    (first_places c.args.plan.now.replicas _ _ _ _ _ c.loop-replica.replica (c.loop-replica.invariant state at) (omega (arith, same, past_last)) (omega (arith, same, few)))
