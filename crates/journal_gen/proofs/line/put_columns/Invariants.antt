-- The text so far and the columns that are left make the whole.
use Rattle.std.proofs.Common.{◌≡◌, ◌++◌, drop}
use Rattle.journal_gen.specs.inner.Columns.{columns_bytes}
use Rattle.journal_gen.proofs.line.put_columns.Given as goal

abbrev pub invariant-loop-column : goal.invariant-loop-column
invariant-loop-column l =
    l.text.items ++ columns_bytes (drop l.column-index l.columns)
    ≡ l.initial.text.items ++ columns_bytes l.columns
