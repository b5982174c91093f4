use Rattle.replica_parts.specs.Rooms.{AreEach, HasRoom}
use Rattle.replica_parts.proofs.making.messages.Given as goal

abbrev pub invariant-loop-replica : goal.invariant-loop-replica
invariant-loop-replica l = AreEach l._replica (HasRoom l.setting) l.messages.items
