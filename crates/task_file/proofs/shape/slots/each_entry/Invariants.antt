-- The entries so far and those of the values that are left make the whole.
use Rattle.toml.specs.View.{view}
use Rattle.rcp_base.proofs.ReaderLaws.{ReadsOn}
use Rattle.task_file.specs.Items.{entry_of}
use Rattle.task_file.proofs.shape.slots.each_entry.Given as goal

abbrev pub invariant-loop-j : goal.invariant-loop-j
invariant-loop-j l = ReadsOn view (λ entry. entry.now) (entry_of l.i l.at) l.values l.j l.entries
