-- Past two digits, the front and then the last two.
use Rattle.std.proofs.Common.{◌/◌, ap, ◌∙◌, arith, length, length-append}
use Rattle.std.specs.Fmt.{decimal}
use Rattle.trace_text.proofs.DigitLemmas.{hundreds_length, pair_put}
use Rattle.trace_text.proofs.lines.Lines.put_short.Goals as goal

pub put_first-requires-else-n-lt100 : goal.put_first-requires-else-n-lt100
put_first-requires-else-n-lt100 c =
    let more = hundreds_length c.args.n (omega (arith, c.if-n-lt100.false)) (omega (arith, c.requires.0)) in
    (omega (arith, c.requires.0), omega (arith, more, c.requires.1))

pub put_pair-requires : goal.put_pair-requires
put_pair-requires c =
    let more = hundreds_length c.args.n (omega (arith, c.if-n-lt100.false)) (omega (arith, c.requires.0)) in
    let front = ap length c.put_first-else-n-lt100.ensures ∙ length-append c.args.self.now.line.items (decimal (c.args.n / 100)) in
    (omega arith, omega (arith, more, front, c.requires.1))

pub returns-else-n-lt100 : goal.returns-else-n-lt100
returns-else-n-lt100 c =
    pair_put _ _ _ c.args.n (omega (arith, c.if-n-lt100.false)) (omega (arith, c.requires.0)) c.put_first-else-n-lt100.ensures c.put_pair.ensures
