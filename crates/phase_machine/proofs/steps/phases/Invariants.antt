use Rattle.phase_machine.specs.Phase.{RestsPhase}
use Rattle.phase_machine.specs.Phases.{part_of}
use Rattle.phase_machine.specs.declared.phase.Phase.TheVariants.{Moving}
use Rattle.rcp_model.specs.System.{initial_state}
use Rattle.std.proofs.Common.{None, get_or, length, ℕ, ◌<◌, ◌≡◌}
use Rattle.phase_machine.proofs.steps.phases.Given as goal

abbrev pub invariant-loop-replica : goal.invariant-loop-replica
invariant-loop-replica l = record {
  size : length l.phases.items ≡ l.replica;
  rest : (k : ℕ) → k < length l.phases.items
      → RestsPhase l.plan k (get_or l.phases.items k Moving)
      (part_of (initial_state l.plan) k (λ (sender : ℕ). None));
}
