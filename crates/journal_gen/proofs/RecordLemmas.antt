-- The records of what a CSV writer wrote, however many more are asked for.
use Rattle.std.proofs.Common.{◌≡◌, ℕ, zero, suc, ◌+◌, ◌-◌, ◌≤◌, List, [], ◌∷◌, ◌++◌, length, map, refl, ap, length-append, arith}
use Rattle.std.specs.Prelude.{if◌then◌else◌}
use Rattle.csv.proofs.RoundTrip.{read-write, rows_text}
use Rattle.csv.specs.Machine.{next_record}
use Rattle.csv.specs.Reading.{default_config, records, records_from}
use Rattle.csv.specs.Writing.{default_writer, is_blank, read_back}
use Rattle.csv.specs.Writing as csv
use Rattle.csv.specs.declared.parser.State.TheVariants as st
use Rattle.fault_journal.specs.Journal.{Fields}

records_read_from : (rows : List Fields) (more : ℕ)
    → records_from default_config (length rows + more) st.StartRecord (rows_text rows) ≡ map read_back rows
unfolding records_from rows_text next_record
records_read_from [] zero = refl
records_read_from [] (suc more) = let some : 0 + suc more ≡ suc more = omega arith in rw some refl
records_read_from (row ∷ rows) more =
    let many : length (row ∷ rows) + more ≡ suc (length rows + more) = omega arith in
    rw (many, read-write row (rows_text rows)) (ap (λ (t : List Fields). read_back row ∷ t) (records_read_from rows more))

-- a record's text has a byte
some_text : (row : Fields) → 1 ≤ length (csv.row_text default_writer row)
some_text row =
    let blank : List ℕ = if is_blank default_writer row then 34 ∷ 34 ∷ [] else [] in
    omega (arith, length-append (csv.row_body default_writer row) (blank ++ (10 ∷ [])), length-append blank (10 ∷ []))

few_records : (rows : List Fields) → length rows ≤ length (rows_text rows)
unfolding rows_text
few_records [] = omega arith
few_records (row ∷ rows) =
    omega (arith, some_text row, few_records rows, length-append (csv.row_text default_writer row) (rows_text rows))

-- all records of what was written
pub records_read : (rows : List Fields) → records default_config (rows_text rows) ≡ map read_back rows
records_read rows =
    let few = few_records rows in
    let many : length (rows_text rows) + 1 ≡ length rows + (length (rows_text rows) + 1 - length rows) = omega (arith, few) in
    rw many (records_read_from rows (length (rows_text rows) + 1 - length rows))
