use Rattle.task_lang.proofs.PlaceLemmas.{tokens_stand_in}
use Rattle.task_lang.proofs.laws.tokens_stand_in_their_text.Goals as goal

pub returns : goal.returns
returns c = tokens_stand_in
