-- The slots so far and those of the values that are left make the whole.
use Rattle.toml.specs.View.{view}
use Rattle.rcp_base.proofs.ReaderLaws.{ReadsOn}
use Rattle.task_file.specs.inner.SectionViews.{slot_view}
use Rattle.task_file.specs.Items.{slot_of}
use Rattle.task_file.proofs.shape.slots.each_slot.Given as goal

abbrev pub invariant-loop-i : goal.invariant-loop-i
invariant-loop-i l = ReadsOn view slot_view slot_of l.values l.i l.slots
