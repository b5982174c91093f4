use Rattle.task_graph.proofs.Soundness.{slot_sound}
use Rattle.task_graph.proofs.laws.feeding_cells_decide.Goals as goal

pub returns : goal.returns
returns c = slot_sound
