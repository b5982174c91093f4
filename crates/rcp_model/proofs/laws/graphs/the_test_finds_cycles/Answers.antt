use Rattle.rcp_model.proofs.ShownLaws.{test_is_right}
use Rattle.rcp_model.proofs.laws.graphs.the_test_finds_cycles.Goals as goal

pub returns : goal.returns
returns c = test_is_right
