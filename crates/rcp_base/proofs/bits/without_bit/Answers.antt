use Rattle.rcp_base.proofs.BitLaws.{takes_out}
use Rattle.rcp_base.proofs.bits.without_bit.Goals as goal

pub returns : goal.returns
returns c = takes_out c.args.word c.args.number c.ranges.word.fits c.requires
