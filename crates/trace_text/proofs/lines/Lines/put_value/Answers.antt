-- A sign and at most 19 digits.
use Rattle.std.proofs.Common.{◌+◌, ◌≤◌, ap, ◌∙◌, arith, length, length-append}
use Rattle.std.specs.Fmt.{decimal}
use Rattle.trace_text.proofs.DigitLemmas.{at_most_19}
use Rattle.trace_text.proofs.lines.Lines.put_value.Goals.{then-n-lt0, else-n-lt0}
use Rattle.trace_text.proofs.lines.Lines.put_value.Goals as goal

pub put_number-requires : goal.put_number-requires
put_number-requires c =
    let signed : length c.if-n-lt0.self.line.items ≤ length c.args.self.now.line.items + 1 =
    elim c.if-n-lt0.branch [
      | then-n-lt0 w ↦ omega (arith, ap (λ self. length self.line.items) w.self-is, w.put_byte.ensures.length)
      | else-n-lt0 w ↦ omega (arith, ap (λ self. length self.line.items) w.self-is)
    ] in
    omega (arith, signed, at_most_19 c.unsigned_abs.result c.unsigned_abs.ensures.bound, c.requires)

pub returns-clause-room : goal.returns-clause-room
returns-clause-room c =
    let signed : length c.if-n-lt0.self.line.items ≤ length c.args.self.now.line.items + 1 =
    elim c.if-n-lt0.branch [
      | then-n-lt0 w ↦ omega (arith, ap (λ self. length self.line.items) w.self-is, w.put_byte.ensures.length)
      | else-n-lt0 w ↦ omega (arith, ap (λ self. length self.line.items) w.self-is)
    ] in
    let put = ap length c.put_number.ensures ∙ length-append c.if-n-lt0.self.line.items (decimal c.unsigned_abs.result) in
    omega (arith, signed, put, at_most_19 c.unsigned_abs.result c.unsigned_abs.ensures.bound)
