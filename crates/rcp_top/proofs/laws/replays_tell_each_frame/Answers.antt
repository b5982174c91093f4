use Rattle.rcp_top.proofs.EachFrameLemmas.{each_frame}
use Rattle.rcp_top.proofs.laws.replays_tell_each_frame.Goals as goal

pub returns : goal.returns
returns c = each_frame c.histories_go_by_frames.ensures
