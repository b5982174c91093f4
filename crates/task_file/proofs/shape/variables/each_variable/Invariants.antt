-- The variables so far and those of the values that are left make the whole.
use Rattle.toml.specs.View.{view}
use Rattle.rcp_base.proofs.ReaderLaws.{ReadsOn}
use Rattle.task_file.specs.inner.SectionViews.{variable_view}
use Rattle.task_file.specs.Items.{variable_of}
use Rattle.task_file.proofs.shape.variables.each_variable.Given as goal

abbrev pub invariant-loop-i : goal.invariant-loop-i
invariant-loop-i l = ReadsOn view variable_view (variable_of l.at l.votes) l.values l.i l.variables
