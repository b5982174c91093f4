-- The code so far, and that of the rows that are left, is that of all rows.
use Rattle.std.proofs.Common.{◌≡◌, ◌++◌, drop}
use Rattle.task_code.specs.Compiler.{lets_code}
use Rattle.task_code.proofs.emit.emit_lets.Given as goal

abbrev pub invariant-loop-row : goal.invariant-loop-row
invariant-loop-row l = l.code.items ++ lets_code (drop l.row-index l.rows) ≡ l.initial.code.items ++ lets_code l.rows
