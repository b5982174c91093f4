use Rattle.layer_stack.proofs.RecoveryLemmas.{recovers}
use Rattle.layer_stack.proofs.laws.replicas_recover.Goals as goal

pub returns : goal.returns
returns c = recovers c.feeding_cells_decide.ensures c.healthy_pairs_hear.ensures
