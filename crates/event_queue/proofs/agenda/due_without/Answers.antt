use Rattle.std.proofs.lemmas.List.Sums.{prefix_len-le-length}
use Rattle.std.proofs.Common.{arith}
use Rattle.event_queue.proofs.agenda.due_without.Goals as goal

pub overflow_cast-result : goal.overflow_cast-result
overflow_cast-result c =
    search (arith, c.requires.room, c.count_of_moment.ensures, prefix_len-le-length)
