-- None of the names so far is bad, and those that are left are tested behind them.
use Rattle.std.proofs.Common.{◌≡◌, ◌++◌, map, take, drop}
use Rattle.task_file.specs.Names.{bad_name_from, raw_names}
use Rattle.task_file.specs.inner.SectionViews.{variable_view}
use Rattle.task_file.proofs.names.variable_names.Given as goal

abbrev pub invariant-loop-i : goal.invariant-loop-i
invariant-loop-i l = record {
  left : bad_name_from l.at l.before 0 (raw_names (map variable_view l.variables))
      ≡ bad_name_from l.at (l.before ++ l.names) l.i (raw_names (map variable_view (drop l.i l.variables)));
  names : l.names ≡ raw_names (map variable_view (take l.i l.variables));
}
