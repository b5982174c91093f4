use Rattle.std.proofs.Common.{◌<◌, arith}
use Rattle.replica_layer.proofs.AtLemmas.{ballot_is, ballot_room}
use Rattle.replica_layer.proofs.replicated.ReplicatedLayer.heard_value.Goals as goal

pub heard_value-requires : goal.heard_value-requires
heard_value-requires c =
    let h = c.requires.2 in
    let from : c.args.from < c.args.self.now.setting.replicas = omega (arith, c.requires.4, h.setting.replicas) in
    let cell : c.args.cell < c.args.self.now.setting.cells = omega (arith, c.requires.5, h.setting.cells) in
    (c.args.self.now.setting, ballot_room c.args.self.now c.requires.0 c.requires.1 h c.args.to c.requires.3 c.index.result.now c.index.ensures, from, cell)

pub returns : goal.returns
returns c = λ plan state h lt from below. c.heard_value.ensures plan.replicas (state.ballots c.args.to) (ballot_is c.args.self.now plan state h c.args.to lt c.index.result.now c.index.ensures) from
