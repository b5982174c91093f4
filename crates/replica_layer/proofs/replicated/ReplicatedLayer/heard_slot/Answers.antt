use Rattle.std.proofs.Common.{◌<◌, arith}
use Rattle.replica_layer.proofs.AtLemmas.{ballot_is, ballot_room}
use Rattle.replica_layer.proofs.replicated.ReplicatedLayer.heard_slot.Goals as goal

pub heard_slot-requires : goal.heard_slot-requires
heard_slot-requires c =
    let h = c.requires.2 in
    let from : c.args.from < c.args.self.now.setting.replicas = omega (arith, c.requires.4, h.setting.replicas) in
    (c.args.self.now.setting, ballot_room c.args.self.now c.requires.0 c.requires.1 h c.args.to c.requires.3 c.index.result.now c.index.ensures, from)

pub returns : goal.returns
returns c = λ plan state h lt from. c.heard_slot.ensures plan.replicas (state.ballots c.args.to) (ballot_is c.args.self.now plan state h c.args.to lt c.index.result.now c.index.ensures) from
