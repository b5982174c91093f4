use Rattle.std.proofs.Common.{refl}
use Rattle.rcp_top.specs.Summary.{tally_of}
use Rattle.rcp_top.proofs.counts.Tally.new.Goals as goal

pub returns : goal.returns
unfolding tally_of
returns c = refl
