use Rattle.std.proofs.Common.{◌≡◌, ◌+◌, ◌∙◌, ap, replicate, rules}
use Rattle.layer_stack.proofs.RunLemmas.{full_streaks}
use Rattle.layer_stack.proofs.streaks.full_streaks.Goals as goal

pub returns-clause-streaks : goal.returns-clause-streaks
returns-clause-streaks c =
    let items : c.in_ok-vec.field-0.items ≡ replicate c.parts.result.now.replicas (c.args.recovery + 1) = search rules in
    full_streaks c.args.plan.now c.args.recovery c.in_ok-vec.field-0.items (items ∙ ap (λ p. replicate p.replicas (c.args.recovery + 1)) c.parts.ensures.parts)
