use Rattle.rcp_base.specs.Filling.{Filled}
use Rattle.std.proofs.Common.{None, Some, get_or, if◌then◌else◌, length, pos, ℕ, ◌≡◌}
use Rattle.vote_pattern.specs.Votes.{is_in}
use Rattle.replica_parts.proofs.computing.write_cells.Given as goal

abbrev pub invariant-loop-cell : goal.invariant-loop-cell
invariant-loop-cell l = record {
  slot : l.own.slot ≡ l.initial.own.slot;
  values : Filled l.setting.cells (λ (c : ℕ). if is_in l.votes l.slot c then Some (get_or l.computed c (pos 0)) else None) None l.initial.own.values l.own.values l.cell;
  size : length l.own.values ≡ l.setting.cells;
}
