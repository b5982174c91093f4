use Rattle.rcp_base.specs.Filling.{Filled}
use Rattle.rcp_model.specs.Ballot.{voted_cell}
use Rattle.rcp_model.specs.declared.plan.PlanParts.{PlanParts}
use Rattle.replica_parts.specs.Places.{message_at}
use Rattle.replica_parts.specs.Setting.{IsSettingOf}
use Rattle.std.proofs.Common.{get_or, length, pos, ℕ, ◌≡◌}
use Rattle.vote_pattern.specs.Votes.{is_in}
use Rattle.replica_parts.proofs.voting.vote_cells.Given as goal

abbrev pub invariant-loop-cell : goal.invariant-loop-cell
invariant-loop-cell l = record {
  cells : (plan : PlanParts) → IsSettingOf plan l.setting
      → Filled l.setting.cells (λ (cell : ℕ). voted_cell plan (is_in l.votes) l.taken (message_at l.heard) cell (get_or l.computed cell (pos 0))) (pos 0) l.initial.cells.items l.cells.items l.cell;
  size : length l.cells.items ≡ l.setting.cells;
  places : length l.places.items ≡ l.setting.replicas;
}
