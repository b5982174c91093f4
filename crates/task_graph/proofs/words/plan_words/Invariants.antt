-- The words so far, and those of the slots that are left, are those of all slots.
use Rattle.std.proofs.Common.{◌≡◌, ◌++◌, drop}
use Rattle.task_graph.specs.inner.Masks as spec
use Rattle.task_graph.proofs.words.plan_words.Given as goal

abbrev pub invariant-loop-slot : goal.invariant-loop-slot
invariant-loop-slot l = l.words.items ++ spec.plan_words l.masks l.cells (drop l.slot-index l.slots) ≡ spec.plan_words l.masks l.cells l.slots
