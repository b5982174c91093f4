use Rattle.rcp_base.specs.Message.{Content, value_in}
use Rattle.replica_parts.proofs.BallotLemmas.{heard_read}
use Rattle.std.proofs.Common.{ap, ◌∙◌}
use Rattle.std.specs.Option.{option_and_then}
use Rattle.replica_parts.proofs.ballot.Ballot.heard_value.Goals as goal

pub returns-then-self : goal.returns-then-self
returns-then-self c = λ replicas voted b lt.
    c.value.ensures ∙ ap (option_and_then (λ (message : Content). value_in message c.args.cell)) (heard_read replicas c.args.self.now voted c.args.from c.index.result.now b c.if-self.true lt c.index.ensures)
