use Rattle.journal_gen.proofs.LawLemmas.{journals_are_guarded}
use Rattle.journal_gen.proofs.laws.generated_journals_are_guarded.Goals as goal

pub returns : goal.returns
returns c = journals_are_guarded
