-- The steps of reading all rows: the header, the rows and the end. This project's own.
use Rattle.std.specs.Prelude.{ℕ, ◌==◌, ◌&&◌, Bool, false, codes, length, List, [], ◌∷◌, Ok, Err, reverse, if◌then◌else◌, Result}
use Rattle.std.specs.Option.{option_map_or}
use Rattle.std.specs.Str.{bytes_eq}
use Rattle.csv.specs.Records.{field_at}
use Rattle.fault_journal.specs.declared.fault.JournalFault.{JournalFault}
use Rattle.fault_journal.specs.declared.fault.JournalFault.TheVariants as fault
use Rattle.fault_journal.specs.declared.rows.Rows.{Rows}
use Rattle.fault_journal.specs.Journal.{Fields, JournalRows, is_header}

-- the field at a place is this text
abbrev pub has_field : Fields → ℕ → List ℕ → Bool
has_field fields place text = option_map_or (λ field. bytes_eq field text) (field_at fields place) false

-- the fields, each by its place, are those of the header
abbrev pub has_header : Fields → Bool
has_header fields =
    (length fields == 6)
    && has_field fields 0 (codes "frame") && has_field fields 1 (codes "kind")
    && has_field fields 2 (codes "a") && has_field fields 3 (codes "b")
    && has_field fields 4 (codes "c") && has_field fields 5 (codes "d")

-- the records after the header
abbrev pub after_header : List Fields → Result (List Fields) JournalFault
after_header [] = Err fault.Header
after_header (header ∷ rest) = if is_header header then Ok rest else Err fault.Header

-- what was read, with the last row first
abbrev pub journal_of : Rows → JournalRows
journal_of read = record { rows = reverse read.rows.items; frames = read.frames }
