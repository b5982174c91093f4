-- The variables so far.
use Rattle.std.proofs.Common.{◌≡◌, map, take}
use Rattle.task_file.specs.inner.SectionViews.{variable_view}
use Rattle.task_file.specs.TaskFile.{variables_of}
use Rattle.task_file.proofs.parts.variables_of.Given as goal

abbrev pub invariant-loop-i : goal.invariant-loop-i
invariant-loop-i l = l.variables ≡ variables_of (map variable_view (take l.i l.raws))
