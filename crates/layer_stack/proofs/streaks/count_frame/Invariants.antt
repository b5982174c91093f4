use Rattle.std.proofs.Common.{ℕ, slice_index_or}
use Rattle.rcp_model.specs.Health.{is_healthy}
use Rattle.rcp_base.specs.Filling.{Filled}
use Rattle.layer_stack.specs.Streaks as definition
use Rattle.layer_stack.proofs.streaks.count_frame.Given as goal

abbrev pub invariant-loop-replica : goal.invariant-loop-replica
invariant-loop-replica l = Filled l.plan.replicas (λ (p : ℕ). definition.streak_after l.recovery (slice_index_or l.initial.streaks.items p 0) (is_healthy l.plan l.input p)) 0 l.initial.streaks.items l.streaks.items l.replica
