-- What is left of the text is to be written.
use Rattle.std.proofs.Common.{length}
use Rattle.rcp_base.specs.Adding.{IsHalfway}
use Rattle.rcp_top.proofs.generated.write_rows.Given as goal

abbrev pub invariant-loop-rest : goal.invariant-loop-rest
invariant-loop-rest g l = IsHalfway (g.S.Sink.state l.initial.out) (g.S.Sink.state l.out) l.so_far l.rest l.text

abbrev pub decreases-loop-rest : goal.decreases-loop-rest
decreases-loop-rest g l = length l.rest
