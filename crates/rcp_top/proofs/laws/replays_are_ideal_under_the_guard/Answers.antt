use Rattle.rcp_top.proofs.ReplayedLemmas.{headline}
use Rattle.rcp_top.proofs.laws.replays_are_ideal_under_the_guard.Goals as goal

pub returns : goal.returns
returns c = headline c.replicas_recover.ensures c.histories_go_by_frames.ensures c.accepted_files_are_plans.ensures
