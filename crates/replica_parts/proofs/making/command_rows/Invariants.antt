use Rattle.rcp_base.specs.Tables.{table}
use Rattle.replica_parts.specs.Places.{command_rows}
use Rattle.replica_parts.specs.Rooms.{AreEach, IsCommandRow}
use Rattle.std.proofs.Common.{None, ℕ, ◌≡◌}
use Rattle.replica_parts.proofs.making.command_rows.Given as goal

abbrev pub invariant-loop-replica : goal.invariant-loop-replica
invariant-loop-replica l = record {
  none : command_rows l.rows.items ≡ table l._replica (λ (replica : ℕ). table l.setting.actuators (λ (actuator : ℕ). None));
  room : AreEach l._replica (IsCommandRow l.setting) l.rows.items;
}
