-- One digit, or two.
use Rattle.std.proofs.Common.{◌++◌, ap, sym, ◌∙◌, arith}
use Rattle.std.proofs.lemmas.Fmt.{decimal_digit}
use Rattle.trace_text.proofs.DigitLemmas.{digit_length, two_digits, two_digits_length}
use Rattle.trace_text.proofs.lines.Lines.put_first.Goals as goal

pub put_digit-requires : goal.put_digit-requires
put_digit-requires c =
    (c.if-n-lt10.true, omega (arith, digit_length c.args.n c.if-n-lt10.true, c.requires.1))

pub put_pair-requires : goal.put_pair-requires
put_pair-requires c =
    (c.requires.0, omega (arith, two_digits_length c.args.n (omega (arith, c.if-n-lt10.false)) c.requires.0, c.requires.1))

pub returns-then-n-lt10 : goal.returns-then-n-lt10
returns-then-n-lt10 c =
    c.put_digit.ensures ∙ ap (λ t. c.args.self.now.line.items ++ t) (sym (decimal_digit c.args.n c.if-n-lt10.true))

pub returns-else-n-lt10 : goal.returns-else-n-lt10
returns-else-n-lt10 c =
    c.put_pair.ensures
    ∙ ap (λ t. c.args.self.now.line.items ++ t) (sym (two_digits c.args.n (omega (arith, c.if-n-lt10.false)) c.requires.0))
