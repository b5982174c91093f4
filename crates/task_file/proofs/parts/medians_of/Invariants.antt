-- The numbers so far and those of the cells that are left make the whole.
use Rattle.std.proofs.Common.{◌≡◌, ◌++◌, map, drop}
use Rattle.task_file.specs.TaskFile.{medians_from}
use Rattle.task_file.specs.inner.SectionViews.{variable_view}
use Rattle.task_file.proofs.parts.medians_of.Given as goal

abbrev pub invariant-loop-i : goal.invariant-loop-i
invariant-loop-i l = l.medians ++ medians_from l.i (map variable_view (drop l.i l.cells)) ≡ medians_from 0 (map variable_view l.cells)
