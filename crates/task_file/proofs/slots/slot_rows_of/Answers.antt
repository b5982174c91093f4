-- Each slot is short, and its row adds to those so far.
use Rattle.std.proofs.Common.{◌+◌, ap, sym, ◌∙◌, arith}
use Rattle.std.proofs.lemmas.List.{length_push}
use Rattle.std.proofs.lemmas.List.Elements.{All-push}
use Rattle.rcp_base.proofs.ReaderLaws.{each_more, all_seen}
use Rattle.task_file.specs.inner.Limits.{IsShortSlot}
use Rattle.task_file.specs.inner.SectionViews.{slot_view}
use Rattle.task_file.specs.inner.SlotRows.{IsShortRow}
use Rattle.task_file.specs.Slots.{slot_row_of}
use Rattle.task_file.proofs.slots.slot_rows_of.Goals as goal

pub slot_row_of-requires-clause-short : goal.slot_row_of-requires-clause-short
slot_row_of-requires-clause-short c =
    rw c.index-slots-i.is (all_seen IsShortSlot slot_view c.args.slots.now c.loop-i.i c.index-slots-i.result (omega arith) c.requires.short)

pub loop-i-preserved : goal.loop-i-preserved
loop-i-preserved c =
    let row = c.in_ok-slot_row_of.field-0 in
    let read = ap (λ slot. slot_row_of c.args.tasks.now c.args.cells.now c.loop-i.i (slot_view slot)) (sym c.index-slots-i.is) ∙ c.in_ok-slot_row_of.ensures.row in
    rw c.in_ok-push.ensures.ok (record {
      left = each_more slot_view (slot_row_of c.args.tasks.now c.args.cells.now) c.args.slots.now c.loop-i.rows c.loop-i.i c.index-slots-i.result row _ (omega arith) c.loop-i.invariant.left read;
      count = length_push c.loop-i.rows row ∙ ap (λ n. n + 1) c.loop-i.invariant.count;
      short = All-push IsShortRow c.loop-i.rows row c.loop-i.invariant.short c.in_ok-slot_row_of.ensures.short;
    })
