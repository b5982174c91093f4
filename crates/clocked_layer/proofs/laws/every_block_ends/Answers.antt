use Rattle.clocked_layer.proofs.Ways.{ends_where}
use Rattle.clocked_layer.proofs.laws.every_block_ends.Goals as goal

pub returns : goal.returns
returns c plan state rows boxes log way none = ends_where plan state rows boxes log way none
