use Rattle.rcp_top.proofs.LayerLemmas.{all_layers}
use Rattle.rcp_top.proofs.laws.all_layers_print_the_same.Goals as goal

pub returns : goal.returns
returns c = all_layers
