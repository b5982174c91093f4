-- What is gone from the rest was written, and each turn writes a byte at least.
use Rattle.std.proofs.Common.{◌≡◌, ℕ, List, ◌++◌, length}
use Rattle.std.specs.Io.KnownBytes.{Appends}
use Rattle.rcp_cli.proofs.sink.write_pieces.Given as goal

abbrev pub invariant-writing : goal.invariant-writing
invariant-writing g l = (done : List ℕ) × (l.bytes ≡ done ++ l.rest) × Appends (g.W.Write.contents l.initial.writer) (g.W.Write.contents l.writer) done

abbrev pub decreases-writing : goal.decreases-writing
decreases-writing g l = length l.rest
