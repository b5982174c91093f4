-- The records of a text, read one at a time. This project's own.
use Rattle.std.specs.Prelude.{◌≡◌, ℕ, ◌+◌, Bool, true, false, List, [], ◌∷◌, length, Option, Some, None, IsSome}
use Rattle.std.specs.Borrow.{Bor}
use Rattle.csv.specs.Reading.{Ready, default_config, has_failed, records_from, source_of}
use Rattle.csv.specs.Records.{fields_of, Row}
use Rattle.csv.specs.declared.parser.State.{State}
use Rattle.csv.specs.declared.reader.Reader.{Reader}
use Rattle.csv.specs.declared.reader.Trim.TheVariants as trim
use Rattle.fault_journal.specs.Journal.{Fields}

-- what a reader of records has: the record at hand, and those that are left
pub record RecordsView : Type 0 where
  pub at_hand : Row
  pub left : List Fields

-- the records of the bytes that are left, where they are known
abbrev pub records_left : State → Option (List ℕ) → List Fields
records_left state None = []
records_left state (Some bytes) = records_from default_config (length bytes + 1) state bytes

-- the bytes that the CSV library's reader has left
abbrev pub bytes_left : Reader (Bor (List ℕ)) → Option (List ℕ)
bytes_left reader = source_of (λ bytes. Some bytes.now) reader

abbrev pub records_view : Reader (Bor (List ℕ)) → Row → RecordsView
records_view reader row = record { at_hand = row; left = records_left reader.state (bytes_left reader) }

-- the reader is set up for the records of a journal, and can go on
pub record CanRead (reader : Reader (Bor (List ℕ))) : Type 0 where
  pub plain : reader.trim ≡ trim.None
  pub ready : Ready reader
  pub usual : reader.config ≡ default_config
  pub flexible : reader.flexible ≡ true
  pub known : IsSome (bytes_left reader)

-- it can, unless memory ran out
abbrev pub CanReadOn : Reader (Bor (List ℕ)) → Type 0
CanReadOn reader = has_failed reader ≡ false → CanRead reader

-- a read took the first of these records, or found that there is none
abbrev pub Takes : List Fields → Bool → RecordsView → Type 0
Takes [] found new = found ≡ false
Takes (fields ∷ rest) found new = (found ≡ true) × (fields_of new.at_hand ≡ fields) × (new.left ≡ rest)
