use Rattle.rcp_top.proofs.LawLemmas.{finished}
use Rattle.rcp_top.proofs.laws.a_run_that_can_finish_does.Goals as goal

pub returns : goal.returns
returns c = finished
