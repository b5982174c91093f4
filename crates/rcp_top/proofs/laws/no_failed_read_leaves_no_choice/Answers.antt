use Rattle.rcp_top.proofs.LawLemmas.{read_in_full}
use Rattle.rcp_top.proofs.laws.no_failed_read_leaves_no_choice.Goals as goal

pub returns : goal.returns
returns c = read_in_full
