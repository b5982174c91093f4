-- The tree gets smaller, and a place comes before what stands there.
use Rattle.std.proofs.Common.{◌+◌, ◌*◌}
use Rattle.task_lang.proofs.PrintingSize.{size}
use Rattle.task_lang.proofs.printer.+printer.Given as goal

abbrev pub decreases-put_placed : goal.decreases-put_placed
decreases-put_placed l = 5 * size l.e.now + 2

abbrev pub decreases-put_bare : goal.decreases-put_bare
decreases-put_bare l = 5 * size l.e.now

abbrev pub decreases-put_call : goal.decreases-put_call
decreases-put_call l = 5 * size l.a.now + 3

abbrev pub decreases-put_triple : goal.decreases-put_triple
decreases-put_triple l = 5 * (size l.a.now + size l.b.now + size l.c.now) + 3

abbrev pub decreases-put_two : goal.decreases-put_two
decreases-put_two l = 5 * (size l.a.now + size l.b.now) + 4

abbrev pub decreases-put_pair : goal.decreases-put_pair
decreases-put_pair l = 5 * (size l.a.now + size l.b.now) + 3

abbrev pub decreases-put_between : goal.decreases-put_between
decreases-put_between l = 5 * (size l.a.now + size l.b.now) + 3

abbrev pub decreases-put_bracketed : goal.decreases-put_bracketed
decreases-put_bracketed l = 5 * size l.e.now + 1
