use Rattle.rcp_base.specs.Message.{Content}
use Rattle.replica_parts.proofs.BallotLemmas.{heard_read}
use Rattle.std.proofs.Common.{ap, option_map, ◌∙◌}
use Rattle.replica_parts.proofs.ballot.Ballot.heard_slot.Goals as goal

pub returns-then-self : goal.returns-then-self
returns-then-self c = λ replicas voted b lt.
    c.slot.ensures ∙ ap (option_map (λ (message : Content). message.slot)) (heard_read replicas c.args.self.now voted c.args.from c.index.result.now b c.if-self.true lt c.index.ensures)
