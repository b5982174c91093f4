-- What is left of the tasks leads from the needs so far to those after all.
use Rattle.std.proofs.Common.{◌≡◌, drop}
use Rattle.task_graph.specs.inner.Masks.{needs_after}
use Rattle.task_graph.proofs.words.run_tasks.Given as goal

abbrev pub invariant-loop-number : goal.invariant-loop-number
invariant-loop-number l = needs_after l.masks (drop l.number-index l.numbers) l.needs ≡ needs_after l.masks l.numbers l.initial.needs
