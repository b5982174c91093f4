use Rattle.std.proofs.Common.{arith}
use Rattle.recovery_analysis.specs.Graphs.{graph_of}
use Rattle.recovery_analysis.proofs.MarkLemmas.{next_is_level}
use Rattle.recovery_analysis.proofs.levels.next_level.Goals as goal

pub returns : goal.returns
returns c =
    next_is_level (graph_of c.args.rows.now c.args.pattern.now) c.args.level.now c.loop-slot.next
    (λ s l. c.loop-slot.invariant.each s (omega arith))
