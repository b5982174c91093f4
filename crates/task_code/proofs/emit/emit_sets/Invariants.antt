-- The code so far, and that of the rows that are left, is that of all rows.
use Rattle.std.proofs.Common.{◌≡◌, ◌++◌, drop}
use Rattle.task_code.specs.Compiler.{sets_code}
use Rattle.task_code.proofs.emit.emit_sets.Given as goal

abbrev pub invariant-loop-row : goal.invariant-loop-row
invariant-loop-row l = l.code.items ++ sets_code (drop l.row-index l.rows) ≡ l.initial.code.items ++ sets_code l.rows
