use Rattle.replica_parts.proofs.BallotLemmas.{slots_are}
use Rattle.replica_parts.proofs.voting.name_slots.Goals as goal

pub returns-clause-slots : goal.returns-clause-slots
returns-clause-slots c = λ plan s. slots_are plan _ _ _ _ c.loop-sender.sender s.replicas c.loop-sender.invariant.slots c.loop-sender-test.false
