use Rattle.replica_parts.proofs.ComputingLemmas.{filled_map}
use Rattle.replica_parts.specs.States.{message_of, no_content, no_state}
use Rattle.vote_pattern.specs.Votes.{is_in}
use Rattle.replica_parts.proofs.computing.write_owns.Goals as goal

pub returns-clause-own : goal.returns-clause-own
returns-clause-own c = λ plan s. filled_map (message_of plan (is_in c.args.votes.now)) c.args.computed.now _ no_state no_content _ _ c.loop-replica.replica c.requires.computed.size (c.loop-replica.invariant.own plan s) c.loop-replica-test.false
