use Rattle.rcp_base.specs.Tables.{table}
use Rattle.rcp_model.specs.System.{initial_state}
use Rattle.std.proofs.Common.{◌≡◌}
use Rattle.replica_parts.proofs.making.states_of.Given as goal

abbrev pub invariant-loop-replica : goal.invariant-loop-replica
invariant-loop-replica l = l.held.items ≡ table l._replica (initial_state l.parts).replicas
