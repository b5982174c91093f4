use Rattle.rcp_model.proofs.TimingLaws.{first_failed_rule-tells}
use Rattle.rcp_model.proofs.laws.the_first_failed_rule_is_told.Goals as goal

pub returns : goal.returns
returns c = first_failed_rule-tells
