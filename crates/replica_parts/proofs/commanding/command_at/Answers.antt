use Rattle.replica_parts.proofs.CommandLemmas.{command_read}
use Rattle.replica_parts.proofs.commanding.command_at.Goals as goal

pub returns : goal.returns
returns c = λ replicas actuators commands e lt less. command_read c.args.rows.now replicas actuators commands c.args.replica c.args.actuator c.index-rows-replica.result c.index.result.now e lt less c.index-rows-replica.is c.index.ensures
