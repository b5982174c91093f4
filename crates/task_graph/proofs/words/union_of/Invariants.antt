-- The union so far, and that of what is left of the mask, are that of the whole mask.
use Rattle.std.proofs.Common.{◌≡◌}
use Rattle.std.specs.Int.Bits.{bit_or}
use Rattle.task_graph.specs.inner.Masks as spec
use Rattle.task_graph.proofs.words.union_of.Given as goal

abbrev pub invariant-loop-cell : goal.invariant-loop-cell
invariant-loop-cell l = bit_or l.union (spec.union_of l.needs l.rest) ≡ spec.union_of l.needs l.mask

abbrev pub decreases-loop-cell : goal.decreases-loop-cell
decreases-loop-cell l = l.rest
