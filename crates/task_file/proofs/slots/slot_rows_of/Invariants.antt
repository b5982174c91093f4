-- The slots so far have these rows.
use Rattle.std.proofs.Common.{◌≡◌, map, drop, length, All}
use Rattle.rcp_base.specs.Answers.{each_from}
use Rattle.rcp_base.proofs.ReaderLaws.{after}
use Rattle.task_file.specs.inner.SectionViews.{slot_view}
use Rattle.task_file.specs.inner.SlotRows.{IsShortRow}
use Rattle.task_file.specs.Slots.{slot_row_of}
use Rattle.task_file.proofs.slots.slot_rows_of.Given as goal

abbrev pub invariant-loop-i : goal.invariant-loop-i
invariant-loop-i l = record {
  left : each_from (slot_row_of l.tasks l.cells) 0 (map slot_view l.slots)
      ≡ after l.rows (each_from (slot_row_of l.tasks l.cells) l.i (map slot_view (drop l.i l.slots)));
  count : length l.rows ≡ l.i;
  short : All IsShortRow l.rows;
}
