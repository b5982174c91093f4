use Rattle.rcp_base.specs.Filling.{Filled}
use Rattle.rcp_model.specs.FrameRows.{cell_row}
use Rattle.std.proofs.Common.{get_or, pos, unwrap_or, ℕ, ◌≡◌}
use Rattle.replica_parts.proofs.holding.overwrite.Given as goal

abbrev pub invariant-loop-cell : goal.invariant-loop-cell
invariant-loop-cell l = record {
  slot : l.held.slot ≡ l.initial.held.slot;
  cells : Filled l.setting.cells (λ (c : ℕ). unwrap_or (cell_row l.input l.replica c) (get_or l.initial.held.cells c (pos 0))) (pos 0) l.initial.held.cells l.held.cells l.cell;
}
