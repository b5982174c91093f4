use Rattle.rcp_model.proofs.TimingLaws.{delay_limit_follows}
use Rattle.rcp_model.proofs.laws.the_delay_limit_follows.Goals as goal

pub returns : goal.returns
returns c = delay_limit_follows
