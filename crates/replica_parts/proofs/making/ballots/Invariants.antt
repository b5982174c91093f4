use Rattle.std.proofs.Common.{false}
use Rattle.replica_parts.specs.Rooms.{AreEach, HasBallotRoom}
use Rattle.replica_parts.specs.declared.ballot.Ballot.{Ballot}
use Rattle.std.proofs.Common.{All, ◌≡◌}
use Rattle.replica_parts.proofs.making.ballots.Given as goal

abbrev pub invariant-loop-replica : goal.invariant-loop-replica
invariant-loop-replica l = record {
  none : All (λ (place : Ballot). place.up ≡ false) l.ballots.items;
  room : AreEach l._replica (HasBallotRoom l.setting) l.ballots.items;
}
