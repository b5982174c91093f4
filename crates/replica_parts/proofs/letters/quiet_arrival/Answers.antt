use Rattle.std.proofs.Common.{arith}
use Rattle.replica_parts.proofs.letters.quiet_arrival.Goals as goal

pub arrival_of-requires-clause-sender : goal.arrival_of-requires-clause-sender
arrival_of-requires-clause-sender c = let s = c.requires.of.1 in omega (arith, s.replicas, s.rules.some_replicas)

pub arrival_of-requires-clause-receiver : goal.arrival_of-requires-clause-receiver
arrival_of-requires-clause-receiver c = let s = c.requires.of.1 in omega (arith, s.replicas, s.rules.some_replicas)
