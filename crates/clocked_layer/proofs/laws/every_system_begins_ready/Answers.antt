use Rattle.clocked_layer.proofs.Interleavings.{initial_ready}
use Rattle.clocked_layer.proofs.laws.every_system_begins_ready.Goals as goal

pub returns : goal.returns
returns c = initial_ready
