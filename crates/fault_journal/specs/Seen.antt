-- What a reader of rows remembers of those before. This project's own.
use Rattle.std.specs.Prelude.{◌≡◌, ⊤, ℕ, ◌+◌, ◌*◌, ◌<◌, ◌≤◌, ◌==◌, List, [], ◌∷◌, slice_index, All, Option, Some, None, if◌then◌else◌}
use Rattle.rcp_base.specs.declared.TheConstants.{MAX_FRAMES}
use Rattle.fault_journal.specs.declared.row.Row.{Row}
use Rattle.fault_journal.specs.declared.seen.Seen.{Seen}
use Rattle.fault_journal.specs.Journal.{kind_number}

-- a row's numbers are small, so that different keys have different places, and 32 bits hold a stamp
pub record HasPlace (row : Row) : Type 0 where
  pub frame : row.frame ≤ MAX_FRAMES
  pub replica : row.replica < 9
  pub receiver : row.receiver < 9
  pub item : row.item < 64

-- the place of a row's key, which is below 12 * 9 * 9 * 64
abbrev pub key_place : Row → ℕ
key_place row = ((kind_number row.kind * 9 + row.replica) * 9 + row.receiver) * 64 + row.item

-- one more than the frame of the last row whose key has this place, and 0 where there is none
abbrev pub stamp_at : List Row → ℕ → ℕ
stamp_at [] place = 0
stamp_at (row ∷ before) place = if key_place row == place then row.frame + 1 else stamp_at before place

-- frames that never rise, the first being at most this
abbrev pub FallFrom : ℕ → List Row → Type 0
FallFrom most [] = ⊤
FallFrom most (row ∷ before) = (row.frame ≤ most) × FallFrom row.frame before

-- the frame of the last row
abbrev pub last_frame : List Row → Option ℕ
last_frame [] = None
last_frame (row ∷ before) = Some row.frame

-- these rows, of which the last comes first, are what has been seen
pub record Knows (before : List Row) (seen : Seen) : Type 0 where
  pub last : seen.last ≡ last_frame before
  pub falls : FallFrom MAX_FRAMES before
  pub places : All HasPlace before
  pub stamps : (place : ℕ) → place < 62_208 → slice_index seen.stamps.items place ≡ stamp_at before place
