use Rattle.clocked_layer.proofs.OpeningLemmas.{one_added}
use Rattle.clocked_layer.proofs.opening.add_late.Goals as goal

pub returns-then-place-clause-room : goal.returns-then-place-clause-room
returns-then-place-clause-room c = one_added _ _ _ c.requires.room c.add.ensures
