-- Each step leaves a smaller number.
use Rattle.trace_text.proofs.lines.Lines.+put_decimal.Given as goal

abbrev pub decreases-put_decimal : goal.decreases-put_decimal
decreases-put_decimal l = l.n
