use Rattle.clock_model.proofs.WindowLemmas.{pairs_hear}
use Rattle.clock_model.proofs.laws.healthy_pairs_hear.Goals as goal

pub returns : goal.returns
returns c = pairs_hear
