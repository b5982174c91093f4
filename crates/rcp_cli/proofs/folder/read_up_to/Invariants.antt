-- What was taken of the reader stands in the vector, and each turn takes a byte at least.
use Rattle.std.proofs.Common.{◌-◌, ◌+◌, ◌≤◌, vec_len}
use Rattle.std.specs.Io.KnownBytes.{Consumes}
use Rattle.rcp_cli.proofs.folder.read_up_to.Given as goal

abbrev pub invariant-reading : goal.invariant-reading
invariant-reading g l =
    (vec_len l.into ≤ l.limit + 1) × Consumes (g.R.Read.remaining l.initial.reader) (g.R.Read.remaining l.reader) l.into.items

abbrev pub decreases-reading : goal.decreases-reading
decreases-reading g l = l.limit + 1 - vec_len l.into
