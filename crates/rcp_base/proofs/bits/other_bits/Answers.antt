use Rattle.rcp_base.proofs.BitLaws.{others_below}
use Rattle.rcp_base.proofs.bits.other_bits.Goals as goal

pub returns : goal.returns
returns c = others_below c.args.word c.bits_below.result c.args.number c.ranges.word.fits c.requires c.bits_below.ensures
