use Rattle.std.proofs.Common.{◌≡◌, ◌+◌, ◌*◌, ◌-◌, length}
use Rattle.task_lang.specs.ReaderParts.{onward}
use Rattle.task_lang.specs.inner.Levels.{level_reader, operator_at, below}
use Rattle.task_lang.proofs.ReaderSteps.{rank}
use Rattle.task_lang.proofs.reader.+reader.Given as goal

abbrev pub decreases-onward : goal.decreases-onward
decreases-onward l = 32 * l.depth + rank l.level - 2

abbrev pub decreases-chained : goal.decreases-chained
decreases-chained l = 32 * l.depth + rank l.level - 1

abbrev pub decreases-expr_at : goal.decreases-expr_at
decreases-expr_at l = 32 * l.depth + rank l.level

abbrev pub decreases-inside : goal.decreases-inside
decreases-inside l = 32 * l.depth + 26

abbrev pub decreases-compared : goal.decreases-compared
decreases-compared l = 32 * l.depth + 14

abbrev pub decreases-pair : goal.decreases-pair
decreases-pair l = 32 * l.depth + 25

abbrev pub decreases-triple : goal.decreases-triple
decreases-triple l = 32 * l.depth + 25

abbrev pub decreases-prefixed : goal.decreases-prefixed
decreases-prefixed l = 32 * l.depth + rank l.level - 1

abbrev pub decreases-prim : goal.decreases-prim
decreases-prim l = 32 * l.depth + 2

abbrev pub invariant-onward-loop-token : goal.invariant-onward-loop-token
invariant-onward-loop-token l =
    onward (operator_at l.level) (level_reader (below l.level) l.names l.depth) l.left l.rest
    ≡ onward (operator_at l.level) (level_reader (below l.level) l.names l.depth) l.initial.left l.initial.rest

abbrev pub decreases-onward-loop-token : goal.decreases-onward-loop-token
decreases-onward-loop-token l = length l.rest
