use Rattle.rcp_base.specs.Filling.{Filled}
use Rattle.rcp_base.specs.Message.{value_in}
use Rattle.rcp_model.specs.FrameRows.{lie_row}
use Rattle.std.proofs.Common.{None, ℕ, ◌≡◌}
use Rattle.std.specs.Option.{option_or}
use Rattle.replica_parts.proofs.letters.shade.Given as goal

abbrev pub invariant-loop-cell : goal.invariant-loop-cell
invariant-loop-cell l = record {
  slot : l.message.slot ≡ l.initial.message.slot;
  values : Filled l.input.cells (λ (c : ℕ). option_or (lie_row l.input l.from l.to c) (value_in l.initial.message c)) None l.initial.message.values l.message.values l.cell;
}
