-- One digit is the whole number.
use Rattle.std.proofs.Common.{◌++◌, ap, sym, ◌∙◌, arith}
use Rattle.std.proofs.lemmas.Fmt.{decimal_digit}
use Rattle.trace_text.proofs.DigitLemmas.{digit_length}
use Rattle.trace_text.proofs.lines.Lines.put_number.Goals as goal

pub put_digit-requires : goal.put_digit-requires
put_digit-requires c =
    (c.if-n-lt10.true, omega (arith, digit_length c.args.n c.if-n-lt10.true, c.requires))

pub returns-then-n-lt10 : goal.returns-then-n-lt10
returns-then-n-lt10 c =
    c.put_digit.ensures ∙ ap (λ t. c.args.self.now.line.items ++ t) (sym (decimal_digit c.args.n c.if-n-lt10.true))
