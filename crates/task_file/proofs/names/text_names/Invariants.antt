-- None of the names so far is bad, and those that are left are tested behind them.
use Rattle.std.proofs.Common.{◌≡◌, [], map, take, drop}
use Rattle.task_file.specs.Names.{bad_name_from, text_names}
use Rattle.task_file.specs.inner.SectionViews.{text_view}
use Rattle.task_file.proofs.names.text_names.Given as goal

abbrev pub invariant-loop-i : goal.invariant-loop-i
invariant-loop-i l = record {
  left : bad_name_from l.at [] 0 (text_names (map text_view l.texts)) ≡ bad_name_from l.at l.names l.i (text_names (map text_view (drop l.i l.texts)));
  names : l.names ≡ text_names (map text_view (take l.i l.texts));
}
