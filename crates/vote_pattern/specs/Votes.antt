-- A vote pattern: which cells are voted in each slot. After NASA TM-102716; the words are this project's own.
use Rattle.std.specs.Prelude.{◌≡◌, ◌≢◌, ℕ, ◌<◌, ◌&&◌, nat_lt, Bool, not, List, length, slice_index_or, replicate, All}
use Rattle.std.specs.List.{filter, range_with_len, sum_by}
use Rattle.rcp_base.specs.Bits.{has_bit}
use Rattle.rcp_model.specs.declared.plan.SlotRow.{SlotRow}
use Rattle.rcp_model.specs.declared.plan.PlanParts.{PlanParts}
use Rattle.rcp_model.specs.PlanGraph.{graph_of_plan}
use Rattle.rcp_model.specs.Walk.{Graph}

-- so many slots and cells, and for each slot a word whose bits are the cells that it votes
pub record Votes : Type 0 where
  pub slots : ℕ
  pub cells : ℕ
  pub words : List ℕ

-- the word of a slot
abbrev pub word_at : Votes → ℕ → ℕ
word_at votes slot = slice_index_or votes.words slot 0

-- the slot votes the cell
unfoldable pub is_in : Votes → ℕ → ℕ → Bool
is_in votes slot cell = nat_lt slot votes.slots && nat_lt cell votes.cells && has_bit (word_at votes slot) cell

-- the bits of the word are the cells that the slot does not vote
abbrev pub AreUnvoted : Votes → ℕ → ℕ → Type 0
AreUnvoted votes slot word = (cell : ℕ) → has_bit word cell ≡ (nat_lt cell votes.cells && not (is_in votes slot cell))

-- the cells that the slot votes, from low to high
unfoldable pub votes_at : Votes → ℕ → List ℕ
votes_at votes slot = filter (is_in votes slot) (range_with_len 0 votes.cells)

-- how many pairs of slot and cell vote
unfoldable pub vote_count : Votes → ℕ
vote_count votes = sum_by (λ slot. length (votes_at votes slot)) (range_with_len 0 votes.slots)

-- no slot votes any cell
abbrev pub no_votes : ℕ → ℕ → Votes
no_votes slots cells = record { slots = slots; cells = cells; words = replicate slots 0 }

-- one slot's vote of one cell is given or taken away, and all else is as before
pub record ChangesVote (old new : Votes) (slot cell : ℕ) (value : Bool) : Type 0 where
  pub slots : new.slots ≡ old.slots
  pub cells : new.cells ≡ old.cells
  pub here : is_in new slot cell ≡ value
  pub other_cells : (other : ℕ) → other ≢ cell → is_in new slot other ≡ is_in old slot other
  pub other_slots : (other some : ℕ) → other ≢ slot → is_in new other some ≡ is_in old other some

-- the votes are those of the graph
pub record AreVotesOf (g : Graph) (votes : Votes) : Type 0 where
  pub slots : votes.slots ≡ g.slots
  pub cells : votes.cells ≡ g.cells
  pub each : (slot cell : ℕ) → slot < g.slots → cell < g.cells → is_in votes slot cell ≡ g.votes slot cell

-- they are those of a plan
abbrev pub IsPatternOf : PlanParts → Votes → Type 0
IsPatternOf plan votes = AreVotesOf (graph_of_plan plan) votes

-- the slots vote none but the first so many cells
abbrev pub AreVotesOver : ℕ → List SlotRow → Type 0
AreVotesOver cells rows = All (λ row. All (λ cell. cell < cells) row.votes) rows
