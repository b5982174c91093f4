use Rattle.rcp_base.proofs.BitLaws.{puts_in}
use Rattle.rcp_base.proofs.bits.with_bit.Goals as goal

pub returns : goal.returns
returns c = puts_in c.args.word c.args.number c.requires
