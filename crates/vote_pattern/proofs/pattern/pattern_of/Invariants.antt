use Rattle.std.proofs.Common.{◌≡◌, ◌<◌, ℕ, length, get_or}
use Rattle.rcp_model.specs.Slot.{no_slot}
use Rattle.vote_pattern.specs.inner.Numbers.{AreBitsOf}
use Rattle.vote_pattern.proofs.pattern.pattern_of.Given as goal

abbrev pub invariant-loop-slot : goal.invariant-loop-slot
invariant-loop-slot l = record {
  long : length l.words.items ≡ l.slot-index;
  words : (slot : ℕ) → slot < l.slot-index → AreBitsOf (get_or l.parts.slots slot no_slot).votes (get_or l.words.items slot 0);
}
