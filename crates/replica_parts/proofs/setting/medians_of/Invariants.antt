use Rattle.std.proofs.Common.{◌==◌}
use Rattle.rcp_base.specs.Tables.{table}
use Rattle.std.proofs.Common.{ℕ, ◌≡◌}
use Rattle.std.specs.List.{list_any}
use Rattle.replica_parts.proofs.setting.medians_of.Given as goal

abbrev pub invariant-loop-cell : goal.invariant-loop-cell
invariant-loop-cell l = l.medians.items ≡ table l.cell (λ (cell : ℕ). list_any (λ (median : ℕ). median == cell) l.numbers)
