use Rattle.frame_table.specs.Plan.{IsOf}
use Rattle.rcp_base.specs.Filling.{Filled}
use Rattle.rcp_model.specs.declared.plan.PlanParts.{PlanParts}
use Rattle.replica_parts.specs.Rooms.{AreStates}
use Rattle.replica_parts.specs.States.{no_state, state_after_compute}
use Rattle.std.proofs.Common.{get_or, ℕ, ◌≡◌}
use Rattle.replica_parts.proofs.computing.compute_all.Given as goal

abbrev pub invariant-loop-replica : goal.invariant-loop-replica
invariant-loop-replica l = record {
  computed : (plan : PlanParts) → IsOf plan l.initial.table → Filled l.setting.replicas (λ (p : ℕ). state_after_compute plan l.sensors (get_or l.held p no_state)) no_state l.initial.computed.items l.computed.items l.replica;
  kept : l.table ≡ l.initial.table;
  room : AreStates l.setting l.computed.items;
}
