-- The verdict on the bytes of a journal: its rows and its number of frames, or the first test that it fails.
-- This project's own.
use Rattle.std.specs.Prelude.{ℕ, ◌+◌, ◌==◌, nat_le, Bool, true, false, not, ◌&&◌, pos, int_le, int_lt, List, [], ◌∷◌, length, codes, Option, Some, None, Ok, Err, if◌then◌else◌, Result}
use Rattle.std.specs.List.{list_any}
use Rattle.std.specs.Str.{bytes_eq}
use Rattle.csv.specs.Reading.{default_config, records, strip_bom}
use Rattle.rcp_base.specs.Answers.{◌>>=◌, found_or, where_passes}
use Rattle.rcp_base.specs.declared.TheConstants.{MAX_JOURNAL}
use Rattle.fault_journal.specs.declared.fault.JournalFault.{JournalFault}
use Rattle.rcp_model.specs.declared.plan.PlanParts.{PlanParts}
use Rattle.fault_journal.specs.declared.fault.JournalFault.TheVariants as fault
use Rattle.fault_journal.specs.declared.row.Kind.{Kind}
use Rattle.fault_journal.specs.declared.row.Kind.TheVariants as kind
use Rattle.fault_journal.specs.declared.row.Row.{Row}
use Rattle.fault_journal.specs.declared.row.WrittenRow.{WrittenRow}
use Rattle.fault_journal.specs.Columns.{kind_of, written_row}
use Rattle.fault_journal.specs.Limits.{is_within_limits, packed}

-- a record, by its fields
abbrev pub Fields : Type 0
Fields = List (List ℕ)

-- the records of a text, as the CSV library defines them
abbrev pub records_of : List ℕ → List Fields
records_of bytes = records default_config (strip_bom bytes)

-- a record of six fields: the frame, the kind, and what stands after them
pub record SixFields : Type 0 where
  pub frame : List ℕ
  pub kind : List ℕ
  pub columns : List (List ℕ)

abbrev pub six_fields : Fields → Option SixFields
six_fields (frame ∷ kind ∷ a ∷ b ∷ c ∷ d ∷ []) = Some (record { frame = frame; kind = kind; columns = a ∷ b ∷ c ∷ d ∷ [] })
six_fields _ = None

-- `frame,kind,a,b,c,d`
abbrev pub is_header : Fields → Bool
is_header (frame ∷ kind ∷ a ∷ b ∷ c ∷ d ∷ []) =
    bytes_eq frame (codes "frame") && bytes_eq kind (codes "kind")
    && bytes_eq a (codes "a") && bytes_eq b (codes "b") && bytes_eq c (codes "c") && bytes_eq d (codes "d")
is_header _ = false

-- by number, so that equality of kinds is that of numbers
abbrev pub kind_number : Kind → ℕ
kind_number kind.Sensor = 0
kind_number kind.Down = 1
kind_number kind.Cell = 2
kind_number kind.Slot = 3
kind_number kind.Act = 4
kind_number kind.Lie = 5
kind_number kind.LieSlot = 6
kind_number kind.Drop = 7
kind_number kind.Skew = 8
kind_number kind.Rate = 9
kind_number kind.Delay = 10
kind_number kind.End = 11

abbrev pub same_kind : Kind → Kind → Bool
same_kind a b = kind_number a == kind_number b

abbrev pub is_end : Kind → Bool
is_end kind.End = true
is_end _ = false

-- a frame may follow that of the row before, where there is one; that of an end row must be greater
abbrev pub follows : List Row → WrittenRow → Bool
follows [] row = true
follows (last ∷ before) row = if is_end row.kind then int_lt (pos last.frame) row.frame else int_le (pos last.frame) row.frame

-- two rows speak of the same thing in the same frame
abbrev pub repeats : Row → Row → Bool
repeats row other =
    (other.frame == row.frame) && same_kind other.kind row.kind
    && (other.replica == row.replica) && (other.receiver == row.receiver) && (other.item == row.item)

-- the row of this number, after the rows before it, of which the last comes first
unfoldable pub row_of : PlanParts → ℕ → List Row → Fields → Result Row JournalFault
row_of plan number before fields = do
  six ← found_or (fault.Width number) (six_fields fields)
  kind ← found_or (fault.Kind number) (kind_of six.kind)
  written ← written_row plan number six.frame kind six.columns
  ordered ← where_passes (fault.Order number) (follows before written) written
  limited ← where_passes (fault.Limit number) (is_within_limits plan ordered) (packed ordered)
  where_passes (fault.Repeated number) (not (list_any (repeats limited) before)) limited

-- the rows of a journal but its end row, of which the last comes first, and the number of frames
pub record JournalRows : Type 0 where
  pub rows : List Row
  pub frames : ℕ

-- what an end row and the records after it give: there must be none
abbrev pub rows_at_end : ℕ → List Row → ℕ → List Fields → Result JournalRows JournalFault
rows_at_end number before frames [] = Ok (record { rows = before; frames = frames })
rows_at_end number before frames (fields ∷ rest) = Err (fault.End (number + 1))

-- what the records from this number on give, after the rows before them
abbrev pub rows_from : PlanParts → ℕ → List Row → List Fields → Result JournalRows JournalFault
rows_from plan number before [] = Err (fault.End number)
rows_from plan number before (fields ∷ rest) = do
  row ← row_of plan number before fields
  if is_end row.kind then rows_at_end number before row.frame rest else rows_from plan (number + 1) (row ∷ before) rest

-- what the records give: the header, and the rows after it
abbrev pub rows_of_records : PlanParts → List Fields → Result JournalRows JournalFault
rows_of_records plan [] = Err fault.Header
rows_of_records plan (header ∷ rest) = if is_header header then rows_from plan 1 [] rest else Err fault.Header

-- what the bytes give
unfoldable pub journal_rows : PlanParts → List ℕ → Result JournalRows JournalFault
journal_rows plan bytes = if nat_le (length bytes) MAX_JOURNAL then rows_of_records plan (records_of bytes) else Err fault.TooLong
