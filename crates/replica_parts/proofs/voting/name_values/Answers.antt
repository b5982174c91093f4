use Rattle.rcp_base.proofs.FillLaws.{filled_all}
use Rattle.rcp_base.specs.Message.{value_in}
use Rattle.rcp_base.specs.Tables.{table}
use Rattle.replica_parts.specs.Places.{message_at}
use Rattle.std.proofs.Common.{None, ap, ℕ, ◌∙◌}
use Rattle.std.specs.Option.{option_and_then}
use Rattle.replica_parts.proofs.voting.name_values.Goals as goal

pub returns-clause-values : goal.returns-clause-values
returns-clause-values c = λ plan s.
    filled_all _ _ None _ _ c.loop-sender.sender c.loop-sender.invariant c.loop-sender-test.false
    ∙ ap (λ (n : ℕ). table n (λ (sender : ℕ). option_and_then (λ message. value_in message c.args.cell) (message_at c.args.heard.now sender))) s.replicas
