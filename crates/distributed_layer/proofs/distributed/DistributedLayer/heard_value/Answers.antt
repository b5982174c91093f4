use Rattle.distributed_layer.proofs.AtLemmas.{part, rests}
use Rattle.distributed_layer.proofs.distributed.DistributedLayer.heard_value.Goals as goal

pub heard_value-requires : goal.heard_value-requires
heard_value-requires c =
    let layer = c.args.self.now in
    let at = c.requires.2 in (
      c.requires.0,
      c.args.to,
      part layer c.requires.0 c.requires.1 at c.args.to,
      rests layer c.requires.0 c.requires.1 at c.args.to c.requires.3 c.index.result.now
          c.index.ensures,
      c.requires.4,
      c.requires.5,
    )
