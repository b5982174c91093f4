use Rattle.distributed_layer.proofs.AtLemmas.{part, rests}
use Rattle.distributed_layer.proofs.distributed.DistributedLayer.voted_cell.Goals as goal

pub voted_cell-requires : goal.voted_cell-requires
voted_cell-requires c =
    let layer = c.args.self.now in
    let at = c.requires.2 in (
      c.requires.0,
      c.args.replica,
      part layer c.requires.0 c.requires.1 at c.args.replica,
      rests layer c.requires.0 c.requires.1 at c.args.replica c.requires.3 c.index.result.now
          c.index.ensures,
      c.requires.4,
    )
