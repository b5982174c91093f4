-- A generated journal is accepted: its text is what a CSV writer writes of its rows' fields, each row is read back, and the
-- history has as many frames.
use Rattle.std.proofs.Common.{◌≡◌, ℕ, ◌<◌, ◌≤◌, ◌^◌, List, [], ◌∷◌, ◌++◌, map, Ok, true, refl, sym, ap, ◌∙◌, arith, append_assoc, append-nil}
use Rattle.std.proofs.lemmas.Bool.{le-leb}
use Rattle.std.proofs.lemmas.Int.{ints}
use Rattle.std.specs.Fmt.{decimal}
use Rattle.std.specs.Prelude.{codes, length}
use Rattle.csv.proofs.RoundTrip.{rows_text as records_text}
use Rattle.csv.specs.Reading.{default_config, records, strip_bom}
use Rattle.csv.specs.Writing.{default_writer, fields_text, is_blank, read_back}
use Rattle.csv.specs.Writing as csv
use Rattle.rcp_base.proofs.TableLaws.{length-table}
use Rattle.rcp_model.specs.declared.plan.PlanParts.{PlanParts}
use Rattle.rcp_model.specs.History.{History}
use Rattle.rcp_model.specs.Plan.{IsPlan}
use Rattle.fault_journal.specs.declared.row.Kind.TheVariants as kind
use Rattle.fault_journal.specs.declared.row.Row.{Row}
use Rattle.fault_journal.specs.History.{frame_of, history_of, journal_result}
use Rattle.fault_journal.specs.Journal.{Fields, follows, journal_rows, records_of, rows_from}
use Rattle.fault_journal.specs.Limits.{is_within_limits}
use Rattle.journal_gen.specs.Generator.{bare, journal_text, rows_before, rows_text}
use Rattle.journal_gen.specs.Written.{row_text}
use Rattle.journal_gen.proofs.Each.{Each}
use Rattle.journal_gen.proofs.FrameLemmas.{frames_made}
use Rattle.journal_gen.proofs.LengthLemmas.{text_fits}
use Rattle.journal_gen.proofs.MadeLemmas.{IsMade, below_true, word_plain}
use Rattle.journal_gen.proofs.NumberLemmas.{natural_read}
use Rattle.journal_gen.proofs.PlainLemmas.{IsPlain, decimal_plain, line_is_record}
use Rattle.journal_gen.proofs.ReadLemmas.{Before, is_new, newest, number_after, rows_read}
use Rattle.journal_gen.proofs.RecordLemmas.{records_read}
use Rattle.journal_gen.proofs.RowLemmas.{columns_text, end_read, fields_of, row_read, written}

-- the text of a row is what a CSV writer writes of its fields
row_is_record : (plan : PlanParts) (row : Row) → row.frame < 2 ^ 63 → Each IsPlain (columns_text plan row)
    → row_text plan row ≡ csv.row_text default_writer (fields_of plan row)
unfolding row_text
row_is_record plan row small plain =
    line_is_record (decimal row.frame) _ (columns_text plan row) (decimal_plain row.frame small) (word_plain row.kind) plain

made_is_record : (plan : PlanParts) (row : Row) → IsMade plan row.frame row → row_text plan row ≡ csv.row_text default_writer (fields_of plan row)
made_is_record plan row made = row_is_record plan row (omega (arith, made.few)) made.plain

-- the text of rows, and then of records
rows_are_records : (plan : PlanParts) (rows : List Row) (rest : List Fields) → Each (λ row. IsMade plan row.frame row) rows
    → rows_text plan rows ++ records_text rest ≡ records_text (map (fields_of plan) rows ++ rest)
unfolding records_text
rows_are_records plan [] rest made = refl
rows_are_records plan (row ∷ rows) rest made =
    append_assoc (row_text plan row) (rows_text plan rows) (records_text rest)
    ∙ rw (made_is_record plan row made.0) (ap (λ t. csv.row_text default_writer (fields_of plan row) ++ t) (rows_are_records plan rows rest made.1))

-- the fields of the header, and all records
abbrev header_fields : Fields
header_fields = codes "frame" ∷ codes "kind" ∷ codes "a" ∷ codes "b" ∷ codes "c" ∷ codes "d" ∷ []

abbrev rows_and_end : PlanParts → List Row → ℕ → List Fields
rows_and_end plan rows frames = map (fields_of plan) rows ++ fields_of plan (bare frames kind.End) ∷ []

header_text : csv.row_text default_writer header_fields ≡ codes "frame,kind,a,b,c,d\n"
unfolding fields_text is_blank
header_text = refl

text_is_records : (plan : PlanParts) (recovery number frames : ℕ) → frames ≤ 1_000_000
    → Each (λ row. IsMade plan row.frame row) (rows_before plan recovery number frames)
    → journal_text plan recovery number frames ≡ records_text (header_fields ∷ rows_and_end plan (rows_before plan recovery number frames) frames)
unfolding journal_text records_text
text_is_records plan recovery number frames few made =
    let rows = rows_before plan recovery number frames in
    let header = codes "frame,kind,a,b,c,d\n" in
    let end = fields_of plan (bare frames kind.End) in
    let last = row_is_record plan (bare frames kind.End) (omega (arith, few)) (refl, (refl, (refl, (refl, tt)))) in
    append_assoc header (rows_text plan rows) (row_text plan (bare frames kind.End))
    ∙ ap (λ t. header ++ (rows_text plan rows ++ t)) (last ∙ sym (append-nil (csv.row_text default_writer end)))
    ∙ ap (λ t. header ++ t) (rows_are_records plan rows (end ∷ []) made)
    ∙ ap (λ t. t ++ records_text (rows_and_end plan rows frames)) (sym header_text)

-- records of a field or more are read back as they are
back_again : (plan : PlanParts) (rows : List Row) (end : Row)
    → map read_back (map (fields_of plan) rows ++ fields_of plan end ∷ []) ≡ map (fields_of plan) rows ++ fields_of plan end ∷ []
back_again plan [] end = refl
back_again plan (row ∷ rows) end = ap (λ t. fields_of plan row ∷ t) (back_again plan rows end)

no_mark : (plan : PlanParts) (recovery number frames : ℕ) → strip_bom (journal_text plan recovery number frames) ≡ journal_text plan recovery number frames
unfolding strip_bom journal_text
no_mark plan recovery number frames = refl

records_are : (plan : PlanParts) (recovery number frames : ℕ) → frames ≤ 1_000_000
    → Each (λ row. IsMade plan row.frame row) (rows_before plan recovery number frames)
    → records_of (journal_text plan recovery number frames) ≡ header_fields ∷ rows_and_end plan (rows_before plan recovery number frames) frames
records_are plan recovery number frames few made =
    let rows = rows_before plan recovery number frames in
    ap (records default_config) (no_mark plan recovery number frames ∙ text_is_records plan recovery number frames few made)
    ∙ records_read (header_fields ∷ rows_and_end plan rows frames)
    ∙ ap (λ t. header_fields ∷ t) (back_again plan rows (bare frames kind.End))

-- the end row comes after all rows
end_in_order : (before : List Row) (frames : ℕ) → Before frames before → follows before (written (bare frames kind.End)) ≡ true
end_in_order [] frames earlier = refl
end_in_order (last ∷ before) frames earlier = let less : last.frame < frames = earlier.0 in grind (arith, ints)

end_limits : (plan : PlanParts) (frames : ℕ) → IsPlan plan → 1 ≤ frames → frames ≤ 1_000_000
    → is_within_limits plan (written (bare frames kind.End)) ≡ true
unfolding is_within_limits
end_limits plan frames is some few =
    rw (le-leb 1 frames some, le-leb frames 1_000_000 few, below_true plan.replicas 0 is.some_replicas) refl

end_is_read : (plan : PlanParts) (number frames : ℕ) (before : List Row) → IsPlan plan → 1 ≤ frames → frames ≤ 1_000_000 → Before frames before
    → rows_from plan number before (fields_of plan (bare frames kind.End) ∷ []) ≡ Ok (record { rows = before; frames = frames })
end_is_read plan number frames before is some few earlier =
    let read = row_read plan number before (bare frames kind.End) (end_read plan frames (natural_read frames (omega (arith, few))))
    (end_in_order before frames earlier) (end_limits plan frames is some few) (is_new before (bare frames kind.End) earlier) in
    rw read refl

-- the rows of the journal, and its number of frames
pub generated_rows : (plan : PlanParts) (recovery number frames : ℕ) → IsPlan plan → 1 ≤ frames → frames ≤ 1_000_000
    → journal_rows plan (journal_text plan recovery number frames) ≡ Ok (record { rows = newest (rows_before plan recovery number frames) []; frames = frames })
unfolding journal_rows
generated_rows plan recovery number frames is some few =
    let rows = rows_before plan recovery number frames in
    let made = frames_made plan recovery number frames is few in
    rw (
      le-leb (length (journal_text plan recovery number frames)) 67_108_864 (text_fits plan recovery number frames is few),
      records_are plan recovery number frames few made.made,
    )
    (rows_read plan 1 [] rows (fields_of plan (bare frames kind.End) ∷ []) made.read
    ∙ end_is_read plan (number_after 1 rows) frames (newest rows []) is some few made.earlier)

-- the history of the journal
abbrev pub generated_history : PlanParts → ℕ → ℕ → ℕ → History
generated_history plan recovery number frames =
    history_of plan (record { rows = newest (rows_before plan recovery number frames) []; frames = frames })

pub history_is : (plan : PlanParts) (recovery number frames : ℕ) → IsPlan plan → 1 ≤ frames → frames ≤ 1_000_000
    → journal_result plan (journal_text plan recovery number frames) ≡ Ok (generated_history plan recovery number frames)
unfolding journal_result
history_is plan recovery number frames is some few = rw (generated_rows plan recovery number frames is some few) refl

pub history_length : (plan : PlanParts) (recovery number frames : ℕ) → length (generated_history plan recovery number frames) ≡ frames
unfolding history_of
history_length plan recovery number frames = length-table frames (frame_of plan (newest (rows_before plan recovery number frames) []))
