use Rattle.layer_stack.proofs.AtFrameLemmas.{recovers_by_frames}
use Rattle.layer_stack.proofs.laws.replicas_recover_by_frames.Goals as goal

pub returns : goal.returns
returns c = recovers_by_frames c.replicas_recover.ensures c.histories_go_by_frames.ensures
