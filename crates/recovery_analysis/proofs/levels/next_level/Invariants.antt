use Rattle.std.proofs.Common.{◌≡◌, ◌<◌, ℕ, length, get_or}
use Rattle.rcp_base.specs.declared.TheConstants.{MAX_SLOTS}
use Rattle.recovery_analysis.specs.Graphs.{graph_of}
use Rattle.recovery_analysis.specs.Steps.{AreNext}
use Rattle.recovery_analysis.specs.inner.Levels.{slot_before}
use Rattle.recovery_analysis.proofs.levels.next_level.Given as goal

abbrev pub invariant-loop-slot : goal.invariant-loop-slot
invariant-loop-slot l = let g = graph_of l.rows l.pattern in record {
  long : length l.next ≡ MAX_SLOTS;
  each : (s : ℕ) → s < l.slot → AreNext g (get_or l.level (slot_before g s) 0) s (get_or l.next s 0);
}
