-- Past four digits, the front and then the last four.
use Rattle.std.proofs.Common.{◌/◌, ap, ◌∙◌, arith, length, length-append}
use Rattle.std.specs.Fmt.{decimal}
use Rattle.trace_text.proofs.DigitLemmas.{ten_thousands_length, four_put}
use Rattle.trace_text.proofs.lines.Lines.+put_decimal.Goals as goal

pub put_decimal-requires : goal.put_decimal-requires
put_decimal-requires t c =
    let more = ten_thousands_length c.args.n (omega (arith, c.if-n-lt10000.false)) c.ranges.n.fits in
    (omega (arith, c.decreases, c.if-n-lt10000.false), omega (arith, more, c.requires))

pub put_four-requires : goal.put_four-requires
put_four-requires t c =
    let more = ten_thousands_length c.args.n (omega (arith, c.if-n-lt10000.false)) c.ranges.n.fits in
    let front = ap length c.put_decimal.ensures ∙ length-append c.args.self.now.line.items (decimal (c.args.n / 10000)) in
    (omega arith, omega (arith, more, front, c.requires))

pub returns-else-n-lt10000 : goal.returns-else-n-lt10000
returns-else-n-lt10000 t c =
    four_put _ _ _ c.args.n (omega (arith, c.if-n-lt10000.false)) c.ranges.n.fits c.put_decimal.ensures c.put_four.ensures
