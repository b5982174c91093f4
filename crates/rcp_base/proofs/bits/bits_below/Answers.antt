use Rattle.std.proofs.Common.{arith}
use Rattle.rcp_base.proofs.BitLaws.{all_below_word, below_word}
use Rattle.rcp_base.proofs.bits.bits_below.Goals as goal

pub returns-then-number-eq64 : goal.returns-then-number-eq64
returns-then-number-eq64 c = all_below_word c.args.number (omega arith)

pub returns-else-number-eq64 : goal.returns-else-number-eq64
returns-else-number-eq64 c = below_word c.args.number (omega arith)
