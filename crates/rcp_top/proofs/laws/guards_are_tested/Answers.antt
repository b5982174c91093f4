use Rattle.rcp_top.proofs.GuardLemmas.{guard_is_tested}
use Rattle.rcp_top.proofs.laws.guards_are_tested.Goals as goal

pub returns : goal.returns
returns c = guard_is_tested
