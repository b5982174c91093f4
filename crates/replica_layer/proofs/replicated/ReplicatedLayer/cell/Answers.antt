use Rattle.std.proofs.Common.{◌<◌, ◌∙◌, ap, get_or, length, pos, subst, sym, arith, rules, w64, FitsSigned}
use Rattle.std.proofs.lemmas.Int.{to_z-of_z}
use Rattle.std.proofs.lemmas.List.Elements.{All-get_or}
use Rattle.rcp_model.specs.Uniprocessor.{ProcessorState}
use Rattle.replica_parts.specs.Rooms.{HasCells}
use Rattle.replica_layer.proofs.AtLemmas.{held_is}
use Rattle.replica_layer.proofs.replicated.ReplicatedLayer.cell.Goals as goal

pub cell-requires : goal.cell-requires
cell-requires c =
    let h = c.requires.2 in
    let setting = c.args.self.now.setting in
    let held = c.args.self.now.held.items in
    let inside : c.args.replica < length held = omega (arith, c.requires.3, h.room.held.size, h.setting.replicas) in
    let room : HasCells setting c.index.result.now =
    subst (HasCells setting) (sym c.index.ensures) (All-get_or (HasCells setting) held c.args.replica c.index.result.now inside h.room.held.each) in
    omega (arith, c.requires.4, room, h.setting.cells)

pub returns : goal.returns
returns c = λ plan state h lt below.
    let fits : FitsSigned w64 c.cell.result = search rules in
    to_z-of_z w64 c.cell.result fits ∙ c.cell.ensures
    ∙ ap (λ (x : ProcessorState). get_or x.cells c.args.cell (pos 0)) (held_is c.args.self.now plan state h c.args.replica lt c.index.result.now c.index.ensures)
