use Rattle.replica_parts.specs.Rooms.{AreEach, IsHeard}
use Rattle.replica_parts.proofs.ballot.heard_places.Given as goal

abbrev pub invariant-loop-sender : goal.invariant-loop-sender
invariant-loop-sender l = AreEach l._sender (IsHeard l.setting) l.places.items
