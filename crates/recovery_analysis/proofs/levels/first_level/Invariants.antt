use Rattle.std.proofs.Common.{◌≡◌, ◌<◌, ℕ, length, get_or}
use Rattle.rcp_base.specs.declared.TheConstants.{MAX_SLOTS}
use Rattle.vote_pattern.specs.Votes.{AreUnvoted}
use Rattle.recovery_analysis.proofs.levels.first_level.Given as goal

abbrev pub invariant-loop-slot : goal.invariant-loop-slot
invariant-loop-slot l = record {
  long : length l.level ≡ MAX_SLOTS;
  each : (s : ℕ) → s < l.slot → AreUnvoted l.pattern s (get_or l.level s 0);
}
