use Rattle.replica_layer.proofs.AtLemmas.{ballot_is}
use Rattle.replica_layer.proofs.replicated.ReplicatedLayer.voted_slot.Goals as goal

pub returns : goal.returns
returns c = λ plan state h lt. c.voted_slot.ensures plan.replicas (state.ballots c.args.replica) (ballot_is c.args.self.now plan state h c.args.replica lt c.index.result.now c.index.ensures)
