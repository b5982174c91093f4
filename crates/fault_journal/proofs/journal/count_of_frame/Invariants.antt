use Rattle.std.proofs.Common.{◌≡◌, All, take}
use Rattle.fault_journal.specs.declared.row.Row.{Row}
use Rattle.fault_journal.proofs.journal.count_of_frame.Given as goal

abbrev pub invariant-loop-place : goal.invariant-loop-place
invariant-loop-place l = All (λ (row : Row). row.frame ≡ l.frame) (take l.place l.rows)
