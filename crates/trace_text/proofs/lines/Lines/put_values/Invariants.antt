-- The line so far and the values that are left make the line, which has not grown by more than their room.
use Rattle.std.proofs.Common.{◌≡◌, ◌+◌, ◌*◌, ◌≤◌, ◌++◌, drop, length}
use Rattle.trace_text.specs.Lines.{numbers_text}
use Rattle.trace_text.proofs.lines.Lines.put_values.Given as goal

abbrev pub invariant-loop-value : goal.invariant-loop-value
invariant-loop-value l =
    (l.self.line.items ++ numbers_text (drop l.value-index l.values) ≡ l.initial.self.line.items ++ numbers_text l.values)
    × (length l.self.line.items ≤ length l.initial.self.line.items + 21 * l.value-index)
