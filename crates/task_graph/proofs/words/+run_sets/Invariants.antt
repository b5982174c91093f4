-- Fewer rows are left.
use Rattle.std.proofs.Common.{length}
use Rattle.task_graph.proofs.words.+run_sets.Given as goal

abbrev pub decreases-run_sets : goal.decreases-run_sets
decreases-run_sets l = length l.rows.now
