use Rattle.std.proofs.Common.{◌∙◌}
use Rattle.fault_journal.proofs.NumberLemmas.{not_text, parsed_is}
use Rattle.fault_journal.proofs.number.parsed.Goals as goal

pub returns-in-Ok : goal.returns-in-Ok
returns-in-Ok c =
    let text = c.in-Ok.ensures.cases.0 in
    c.ok.ensures.value ∙ parsed_is c.args.text.now c.parse.result c.requires (rw text at c.parse.ensures.value.0)

pub returns-in-Err : goal.returns-in-Err
returns-in-Err c = not_text c.args.text.now c.in-Err.ensures.cases.0
