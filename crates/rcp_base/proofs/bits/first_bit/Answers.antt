use Rattle.std.proofs.Common.{arith}
use Rattle.rcp_base.proofs.BitLaws.{first_of_word}
use Rattle.rcp_base.proofs.bits.first_bit.Goals as goal

pub returns-else-word-eq0 : goal.returns-else-word-eq0
returns-else-word-eq0 c = first_of_word c.args.word (omega arith) c.ranges.word.fits
