-- No bit past the word's end.
use Rattle.std.proofs.Common.{◌∙◌, sym, arith}
use Rattle.std.proofs.lemmas.Bool.{le-ltb}
use Rattle.rcp_base.proofs.BitLaws.{no_bit_above}
use Rattle.task_graph.proofs.bits.has_cell.Goals as goal

pub returns-else-cell-lt64 : goal.returns-else-cell-lt64
returns-else-cell-lt64 c = le-ltb c.args.cell 64 (omega (arith, c.if-cell-lt64.false)) ∙ sym (no_bit_above c.args.word c.args.cell c.ranges.word.fits (omega (arith, c.if-cell-lt64.false)))
