use Rattle.layer_stack.proofs.BeginningLemmas.{begins_ideal}
use Rattle.layer_stack.proofs.laws.every_system_begins_ideal.Goals as goal

pub returns : goal.returns
returns c = begins_ideal
