use Rattle.std.proofs.Common.{refl}
use Rattle.rcp_top.proofs.send.add.Goals as goal

pub returns : goal.returns
returns g c = c.add_made.ensures c.args.line.now refl
