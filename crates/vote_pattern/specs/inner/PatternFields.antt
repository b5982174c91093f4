-- What the fields of a pattern say together. This project's own.
use Rattle.std.specs.Prelude.{◌≡◌, ℕ, ◌≤◌, false, length}
use Rattle.vote_pattern.specs.declared.pattern.Pattern.TheInside.{Inside}
use Rattle.rcp_base.specs.Bits.{has_bit}
use Rattle.rcp_base.specs.declared.TheConstants.{MAX_CELLS, MAX_SLOTS}
use Rattle.vote_pattern.specs.Votes.{Votes, word_at}

-- the votes that the fields hold
abbrev pub votes_in : Inside → Votes
votes_in pattern = record { slots = pattern.slots; cells = pattern.cells; words = pattern.words.items }

-- a word for each slot, without a cell past the last
pub record AreSlotWords (votes : Votes) : Type 0 where
  pub few_slots : votes.slots ≤ MAX_SLOTS
  pub few_cells : votes.cells ≤ MAX_CELLS
  pub words : length votes.words ≡ votes.slots
  pub none_past : (slot cell : ℕ) → votes.cells ≤ cell → has_bit (word_at votes slot) cell ≡ false

-- the fields of a pattern
abbrev pub IsPattern : Inside → Type 0
IsPattern pattern = AreSlotWords (votes_in pattern)
