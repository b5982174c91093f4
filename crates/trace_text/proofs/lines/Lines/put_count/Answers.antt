use Rattle.std.proofs.Common.{ap, ◌∙◌, arith, length, length-append}
use Rattle.std.specs.Fmt.{decimal}
use Rattle.trace_text.proofs.DigitLemmas.{at_most_20}
use Rattle.trace_text.proofs.lines.Lines.put_count.Goals as goal

pub put_number-requires : goal.put_number-requires
put_number-requires c = omega (arith, at_most_20 c.args.n c.ranges.n.fits, c.requires)

pub returns-clause-room : goal.returns-clause-room
returns-clause-room c =
    omega (
      arith,
      at_most_20 c.args.n c.ranges.n.fits,
      ap length c.put_number.ensures ∙ length-append c.args.self.now.line.items (decimal c.args.n),
    )
