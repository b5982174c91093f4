use Rattle.std.proofs.Common.{arith}
use Rattle.recovery_analysis.proofs.MarkLemmas.{first_is_level}
use Rattle.recovery_analysis.proofs.levels.first_level.Goals as goal

pub returns : goal.returns
returns c =
    first_is_level c.args.rows.now c.args.pattern.now c.loop-slot.level c.requires
    (λ s l. c.loop-slot.invariant.each s (omega arith))
