use Rattle.rcp_base.specs.Message.{value_in}
use Rattle.std.proofs.Common.{get_or, pos, ℕ, ◌<◌, ◌≡◌}
use Rattle.std.specs.Prelude.{IfSome}
use Rattle.replica_parts.proofs.agreement.names_no_other.Given as goal

abbrev pub invariant-loop-cell : goal.invariant-loop-cell
invariant-loop-cell l = (cell : ℕ) → cell < l.cell → IfSome (value_in l.message cell) (λ value. value ≡ get_or l.computed cell (pos 0))
