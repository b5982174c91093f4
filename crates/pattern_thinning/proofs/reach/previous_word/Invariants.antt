use Rattle.std.proofs.Common.{◌≡◌, ℕ}
use Rattle.rcp_base.specs.Bits.{has_bit}
use Rattle.recovery_analysis.specs.Graphs.{graph_of}
use Rattle.pattern_thinning.specs.inner.Reach.{feeds_below}
use Rattle.pattern_thinning.proofs.reach.previous_word.Given as goal

abbrev pub invariant-loop-cell : goal.invariant-loop-cell
invariant-loop-cell l = (i : ℕ) → has_bit l.feeding i ≡ feeds_below l.cell (graph_of l.rows l.pattern) l.word l.slot i
