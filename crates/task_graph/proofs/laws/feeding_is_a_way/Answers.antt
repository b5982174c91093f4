use Rattle.task_graph.proofs.Ways.{to_way, from_way}
use Rattle.task_graph.proofs.laws.feeding_is_a_way.Goals as goal

pub returns : goal.returns
returns c cells tasks from to = (to_way cells tasks from to, from_way cells tasks from to)
