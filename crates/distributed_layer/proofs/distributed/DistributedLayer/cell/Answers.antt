use Rattle.std.proofs.Common.{◌∙◌, rules, w64, FitsSigned}
use Rattle.std.proofs.lemmas.Int.{to_z-of_z}
use Rattle.distributed_layer.proofs.AtLemmas.{part, rests}
use Rattle.distributed_layer.proofs.distributed.DistributedLayer.cell.Goals as goal

pub cell-requires : goal.cell-requires
cell-requires c =
    let layer = c.args.self.now in
    let at = c.requires.2 in (
      c.requires.0,
      c.args.replica,
      part layer c.requires.0 c.requires.1 at c.args.replica,
      rests layer c.requires.0 c.requires.1 at c.args.replica c.requires.3 c.index.result.now
          c.index.ensures,
      c.requires.4,
    )

pub returns : goal.returns
returns c = λ plan state at lt below.
    let fits : FitsSigned w64 c.cell.result = search rules in
    to_z-of_z w64 c.cell.result fits
    ∙ c.cell.ensures plan c.args.replica (part c.args.self.now plan state at c.args.replica)
    (rests c.args.self.now plan state at c.args.replica lt c.index.result.now c.index.ensures)
