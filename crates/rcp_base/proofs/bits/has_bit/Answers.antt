use Rattle.rcp_base.proofs.BitLaws.{and_one_bit}
use Rattle.rcp_base.proofs.bits.has_bit.Goals as goal

pub returns : goal.returns
returns c = and_one_bit c.args.word c.args.number c.requires
