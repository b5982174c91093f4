use Rattle.rcp_top.proofs.ReplayedLemmas.{cut_headline}
use Rattle.rcp_top.proofs.laws.cut_replays_are_ideal_under_the_guard.Goals as goal

pub returns : goal.returns
returns c = cut_headline c.replays_are_ideal_under_the_guard.ensures
