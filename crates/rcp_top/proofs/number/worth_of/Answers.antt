use Rattle.std.proofs.Common.{◌∙◌}
use Rattle.rcp_top.proofs.NumberLemmas.{worth_is_parsed}
use Rattle.rcp_top.proofs.number.worth_of.Goals as goal

pub returns : goal.returns
returns c = c.ok.ensures.value ∙ worth_is_parsed c.args.word.now c.parse.result c.requires c.parse.ensures.value.0
