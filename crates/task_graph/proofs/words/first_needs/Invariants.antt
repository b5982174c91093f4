-- The cells so far have their words.
use Rattle.std.proofs.Common.{◌≡◌}
use Rattle.rcp_base.specs.Tables.{table}
use Rattle.task_graph.specs.inner.Masks.{bit_of}
use Rattle.task_graph.proofs.words.first_needs.Given as goal

abbrev pub invariant-loop-cell : goal.invariant-loop-cell
invariant-loop-cell l = l.needs.items ≡ table l.cell bit_of
