use Rattle.distributed_layer.proofs.TogetherLemmas.{together_is}
use Rattle.distributed_layer.proofs.laws.phases_make_the_next_state.Goals as goal

pub returns : goal.returns
returns c = together_is
