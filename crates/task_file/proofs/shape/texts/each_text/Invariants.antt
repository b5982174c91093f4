-- The texts so far and those of the values that are left make the whole.
use Rattle.toml.specs.View.{view}
use Rattle.rcp_base.proofs.ReaderLaws.{ReadsOn}
use Rattle.task_file.specs.inner.SectionViews.{text_view}
use Rattle.task_file.specs.Items.{named_text_of}
use Rattle.task_file.proofs.shape.texts.each_text.Given as goal

abbrev pub invariant-loop-i : goal.invariant-loop-i
invariant-loop-i l = ReadsOn view text_view (named_text_of l.at l.text_key l.word) l.values l.i l.texts
