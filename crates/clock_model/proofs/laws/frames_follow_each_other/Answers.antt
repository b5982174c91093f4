use Rattle.clock_model.proofs.OrderLemmas.{frames_follow}
use Rattle.clock_model.proofs.laws.frames_follow_each_other.Goals as goal

pub returns : goal.returns
returns c = frames_follow
