-- What a row keeps that is accepted, and what all rows of a journal keep.
use Rattle.std.proofs.Common.{◌≡◌, ◌≢◌, ℕ, suc, nat_le, inl, inr, ◌+◌, ◌<◌, ◌≤◌, List, [], ◌∷◌, length, Some, Ok, Err, ℤ, pos, negsuc, int_lt, int_le, Bool, true, false, not, ◌&&◌, if◌then◌else◌, All, AllPairs, sym, refl, ap, ◌∙◌, arith, subst, Result}
use Rattle.std.specs.List.{list_any}
use Rattle.std.specs.Ordering.{int_eq}
use Rattle.std.proofs.lemmas.Bool.{cases_Bool, true≢false}
use Rattle.std.proofs.lemmas.Bool.Decides.{Decides-int_eq}
use Rattle.std.proofs.lemmas.Int.{ints}
use Rattle.std.proofs.lemmas.List.Elements.{All-nil, All-cons}
use Rattle.std.proofs.lemmas.List.Kept.{AllPairs-cons}
use Rattle.rcp_base.specs.Answers.{◌>>=◌, found_or, where_passes, natural_of}
use Rattle.rcp_model.specs.declared.plan.PlanParts.{PlanParts}
use Rattle.fault_journal.specs.declared.fault.JournalFault.{JournalFault}
use Rattle.fault_journal.specs.declared.fault.JournalFault.TheVariants as fault
use Rattle.fault_journal.specs.declared.row.Kind.{Kind}
use Rattle.fault_journal.specs.declared.row.Kind.TheVariants as kind
use Rattle.fault_journal.specs.declared.row.WrittenRow.{WrittenRow}
use Rattle.fault_journal.specs.declared.row.Row.{Row}
use Rattle.fault_journal.specs.Columns.{kind_of, written_row}
use Rattle.fault_journal.specs.Limits.{is_within_limits, frame_is_there, is_on_a_message, is_below, packed}
use Rattle.fault_journal.specs.Journal.{Fields, SixFields, six_fields, is_end, follows, repeats, row_of, JournalRows, rows_at_end, rows_from, rows_of_records, journal_rows, is_header, records_of}
use Rattle.fault_journal.specs.Filling.{IsRowOf}
use Rattle.fault_journal.proofs.Accepted.{AreJournalRows}
use Rattle.fault_journal.proofs.WrittenLemmas.{then-Ok, passes-Ok, found-Ok, IsWritten, written_row-Ok}

-- the tests of a row after its columns
abbrev tested : PlanParts → ℕ → List Row → WrittenRow → Result Row JournalFault
tested plan number before written = do
  ordered ← where_passes (fault.Order number) (follows before written) written
  limited ← where_passes (fault.Limit number) (is_within_limits plan ordered) (packed ordered)
  where_passes (fault.Repeated number) (not (list_any (repeats limited) before)) limited

-- those after its kind
abbrev of_kind : PlanParts → ℕ → List Row → SixFields → Kind → Result Row JournalFault
of_kind plan number before six kind = do
  written ← written_row plan number six.frame kind six.columns
  tested plan number before written

-- those after its fields
abbrev of_fields : PlanParts → ℕ → List Row → SixFields → Result Row JournalFault
of_fields plan number before six = do
  kind ← found_or (fault.Kind number) (kind_of six.kind)
  of_kind plan number before six kind

-- a row that passes its tests is ordered and within its limits
record Passes (plan : PlanParts) (before : List Row) (written : WrittenRow) (row : Row) : Type 0 where
  order : follows before written ≡ true
  limits : is_within_limits plan written ≡ true
  packs : packed written ≡ row

tested-Ok : (plan : PlanParts) (number : ℕ) (before : List Row) (written : WrittenRow) (row : Row) → tested plan number before written ≡ Ok row
    → Passes plan before written row
tested-Ok plan number before written row is =
    let single : Row → Result Row JournalFault = λ limited. where_passes (fault.Repeated number) (not (list_any (repeats limited) before)) limited in
    let limited : WrittenRow → Result Row JournalFault = λ ordered. where_passes (fault.Limit number) (is_within_limits plan ordered) (packed ordered) >>= single in
    let first = then-Ok (where_passes (fault.Order number) (follows before written) written) limited row is in
    let order = passes-Ok (fault.Order number) (follows before written) written first.0 first.1 in
    let second = then-Ok (where_passes (fault.Limit number) (is_within_limits plan first.0) (packed first.0)) single row first.2 in
    let limit = passes-Ok (fault.Limit number) (is_within_limits plan first.0) (packed first.0) second.0 second.1 in
    let last = passes-Ok (fault.Repeated number) (not (list_any (repeats second.0) before)) second.0 row second.2 in
    record {
      order = order.0;
      limits = ap (is_within_limits plan) order.1 ∙ limit.0;
      packs = ap packed order.1 ∙ limit.1 ∙ last.1;
    }

-- the frame of a row is no less than that of the row before, and that of an end row is greater
abbrev ComesAfter : List Row → Row → Type 0
ComesAfter [] row = Unit {0}
ComesAfter (last ∷ before) row = (last.frame ≤ row.frame) × (is_end row.kind ≡ true → last.frame < row.frame)

record IsAccepted (plan : PlanParts) (before : List Row) (row : Row) : Type 0 where
  of_plan : is_end row.kind ≡ false → IsRowOf plan row
  few : row.frame ≤ 1_000_000
  past : ComesAfter before row

five_tests : (a b c d e : Bool) → (a && b && c && d && e) ≡ true → (a ≡ true) × (b ≡ true) × (c ≡ true) × (d ≡ true) × (e ≡ true)
five_tests true true true true e passes = (refl, refl, refl, refl, passes)
five_tests true true true false e passes = cc
five_tests true true false d e passes = cc
five_tests true false c d e passes = cc
five_tests false b c d e passes = cc

-- a number from 0 on
below-true : (count : ℕ) (x : ℤ) → is_below count x ≡ true → natural_of x < count
below-true count (pos n) passes = grind (arith, ints)
below-true count (negsuc n) passes = grind (arith, ints)

natural-true : (count : ℕ) (x : ℤ) → is_below count x ≡ true → pos (natural_of x) ≡ x
natural-true count (pos n) passes = refl
natural-true count (negsuc n) passes = grind (arith, ints)

-- two numbers from 0 on that are not the same, where a row is on a message
apart_naturals : (count : ℕ) (message : Bool) (a b : ℤ) → is_below count a ≡ true → is_below count b ≡ true
    → not (message && int_eq a b) ≡ true → message ≡ true → natural_of a ≢ natural_of b
apart_naturals count false a b first second apart message same = cc
apart_naturals count true a b first second apart message same =
    let equal : a ≡ b = sym (natural-true count a first) ∙ ap pos same ∙ natural-true count b second in
    let test : int_eq a b ≡ true = (Decides-int_eq a b).1 equal in
    true≢false (sym apart ∙ ap not test)

-- the number of frames, which is more than 0
frames-true : (x : ℤ) → (int_le (pos 1) x && int_le x (pos 1_000_000)) ≡ true → (natural_of x ≤ 1_000_000) × (pos (natural_of x) ≡ x)
frames-true (pos n) passes = (grind (arith, ints), refl)
frames-true (negsuc n) passes = (grind (arith, ints), grind (arith, ints))

record IsFrame (kind : Kind) (frame : ℤ) : Type 0 where
  few : natural_of frame ≤ 1_000_000
  below : is_end kind ≡ false → natural_of frame < 1_000_000
  natural : pos (natural_of frame) ≡ frame

usual_frame : (kind : Kind) (frame : ℤ) → is_below 1_000_000 frame ≡ true → IsFrame kind frame
usual_frame kind frame passes =
    let below = below-true 1_000_000 frame passes in
    record { few = omega arith; below = λ no. below; natural = natural-true 1_000_000 frame passes }

frame-true : (kind : Kind) (frame : ℤ) → frame_is_there kind frame ≡ true → IsFrame kind frame
frame-true kind.End frame passes = record { few = (frames-true frame passes).0; below = λ no. cc; natural = (frames-true frame passes).1 }
frame-true kind.Sensor frame passes = usual_frame kind.Sensor frame passes
frame-true kind.Down frame passes = usual_frame kind.Down frame passes
frame-true kind.Cell frame passes = usual_frame kind.Cell frame passes
frame-true kind.Slot frame passes = usual_frame kind.Slot frame passes
frame-true kind.Act frame passes = usual_frame kind.Act frame passes
frame-true kind.Lie frame passes = usual_frame kind.Lie frame passes
frame-true kind.LieSlot frame passes = usual_frame kind.LieSlot frame passes
frame-true kind.Drop frame passes = usual_frame kind.Drop frame passes
frame-true kind.Skew frame passes = usual_frame kind.Skew frame passes
frame-true kind.Rate frame passes = usual_frame kind.Rate frame passes
frame-true kind.Delay frame passes = usual_frame kind.Delay frame passes

receiver_below : (plan : PlanParts) (message : Bool) (receiver : ℤ) → (message ≡ false → receiver ≡ pos 0) → natural_of receiver < plan.replicas
    → natural_of receiver < (if message then plan.replicas else 1)
receiver_below plan true receiver none below = below
receiver_below plan false receiver none below = let zero : natural_of receiver ≡ 0 = ap natural_of (none refl) in omega arith

after_last : (last_row : Bool) (last frame : ℕ) → (if last_row then int_lt (pos last) (pos frame) else int_le (pos last) (pos frame)) ≡ true
    → (last ≤ frame) × (last_row ≡ true → last < frame)
after_last true last frame order = (grind (arith, ints), λ yes. grind (arith, ints))
after_last false last frame order = (grind (arith, ints), λ yes. cc)

after_written : (before : List Row) (written : WrittenRow) → follows before written ≡ true → pos (natural_of written.frame) ≡ written.frame → ComesAfter before (packed written)
after_written [] written order natural = tt
after_written (last ∷ before) written order natural =
    after_last (is_end written.kind) last.frame (natural_of written.frame)
    (subst (λ (frame : ℤ). (if is_end written.kind then int_lt (pos last.frame) frame else int_le (pos last.frame) frame) ≡ true) (sym natural) order)

accepted_itself : (plan : PlanParts) (before : List Row) (written : WrittenRow) → IsWritten plan written.kind written
    → follows before written ≡ true → is_within_limits plan written ≡ true → IsAccepted plan before (packed written)
unfolding is_within_limits
accepted_itself plan before written reads order limits =
    let tests = five_tests _ _ _ _ _ limits in
    let frame = frame-true written.kind written.frame tests.0 in
    record {
      of_plan =
          λ no. record {
            frame = frame.below no;
            replica = below-true plan.replicas written.replica tests.1;
            receiver = receiver_below plan (is_on_a_message written.kind) written.receiver reads.receiver (below-true plan.replicas written.receiver tests.2);
            item = reads.item;
            value = tests.4;
            apart = apart_naturals plan.replicas (is_on_a_message written.kind) written.replica written.receiver tests.1 tests.2 tests.3;
          };
      few = frame.few;
      past = after_written before written order frame.natural;
    }

accepted : (plan : PlanParts) (before : List Row) (kind : Kind) (written : WrittenRow) → IsWritten plan kind written
    → follows before written ≡ true → is_within_limits plan written ≡ true → IsAccepted plan before (packed written)
accepted plan before kind written reads order limits =
    accepted_itself plan before written (subst (λ (k : Kind). IsWritten plan k written) (sym reads.kind) reads) order limits

six_fields-four : (fields : Fields) (six : SixFields) → six_fields fields ≡ Some six → length six.columns ≡ 4
six_fields-four (frame ∷ kind ∷ a ∷ b ∷ c ∷ d ∷ []) six is =
    let same : record { frame = frame; kind = kind; columns = a ∷ b ∷ c ∷ d ∷ [] } ≡ six = cc in
    sym (ap (λ (s : SixFields). length s.columns) same)
six_fields-four _ six is = cc

row_of-Ok : (plan : PlanParts) (number : ℕ) (before : List Row) (fields : Fields) (row : Row) → row_of plan number before fields ≡ Ok row
    → IsAccepted plan before row
unfolding row_of
row_of-Ok plan number before fields row is =
    let six = then-Ok (found_or (fault.Width number) (six_fields fields)) (of_fields plan number before) row is in
    let kind = then-Ok (found_or (fault.Kind number) (kind_of six.0.kind)) (of_kind plan number before six.0) row six.2 in
    let written = then-Ok (written_row plan number six.0.frame kind.0 six.0.columns) (tested plan number before) row kind.2 in
    let four = six_fields-four fields six.0 (found-Ok (fault.Width number) (six_fields fields) six.0 six.1) in
    let passed = tested-Ok plan number before written.0 row written.2 in
    subst (IsAccepted plan before) passed.packs
    (accepted plan before kind.0 written.0 (written_row-Ok plan number six.0.frame kind.0 six.0.columns written.0 four written.1) passed.order passed.limits)

-- the rows so far
record AreSoFar (plan : PlanParts) (before : List Row) : Type 0 where
  rows : All (IsRowOf plan) before
  order : AllPairs (λ later earlier. earlier.frame ≤ later.frame) before

-- no row so far is of a frame after that of a row that follows
before_frame : (plan : PlanParts) (before : List Row) (row : Row) → AreSoFar plan before → ComesAfter before row → All (λ r. r.frame ≤ row.frame) before
before_frame plan [] row so_far past = All-nil (λ (r : Row). r.frame ≤ row.frame)
before_frame plan (last ∷ before) row so_far past =
    All-cons (λ (r : Row). r.frame ≤ row.frame) last before past.0
    (λ k d within. let falls = so_far.order 0 (suc k) d (omega arith) (omega arith) in omega (arith, falls, past.0))

-- and all are of frames before an end row
before_end : (plan : PlanParts) (before : List Row) (row : Row) → AreSoFar plan before → is_end row.kind ≡ true → ComesAfter before row → All (λ r. r.frame < row.frame) before
before_end plan [] row so_far ends past = All-nil (λ (r : Row). r.frame < row.frame)
before_end plan (last ∷ before) row so_far ends past =
    let below : last.frame < row.frame = past.1 ends in
    All-cons (λ (r : Row). r.frame < row.frame) last before below
    (λ k d within. let falls = so_far.order 0 (suc k) d (omega arith) (omega arith) in omega (arith, falls, below))

-- one row more
so_far_more : (plan : PlanParts) (before : List Row) (row : Row) → AreSoFar plan before → IsAccepted plan before row → is_end row.kind ≡ false → AreSoFar plan (row ∷ before)
so_far_more plan before row so_far is_accepted goes_on = record {
  rows = All-cons (IsRowOf plan) row before (is_accepted.of_plan goes_on) so_far.rows;
  order = AllPairs-cons (λ (later earlier : Row). earlier.frame ≤ later.frame) row before (before_frame plan before row so_far is_accepted.past) so_far.order;
}

-- the end
rows_at_end-Ok : (plan : PlanParts) (number : ℕ) (before : List Row) (row : Row) (rest : List Fields) (journal : JournalRows) → AreSoFar plan before → IsAccepted plan before row
    → is_end row.kind ≡ true → rows_at_end number before row.frame rest ≡ Ok journal → AreJournalRows plan journal
rows_at_end-Ok plan number before row [] journal so_far is_accepted ends is =
    let same : record { rows = before; frames = row.frame } ≡ journal = cc in
    subst (AreJournalRows plan) same
    (record { rows = so_far.rows; order = so_far.order; ends = before_end plan before row so_far ends is_accepted.past; few = is_accepted.few })
rows_at_end-Ok plan number before row (fields ∷ rest) journal so_far is_accepted ends is = cc

rows_from-Ok : (plan : PlanParts) (number : ℕ) (before : List Row) (records : List Fields) (journal : JournalRows) → AreSoFar plan before
    → rows_from plan number before records ≡ Ok journal → AreJournalRows plan journal
rows_from-Ok plan number before [] journal so_far is = cc
rows_from-Ok plan number before (fields ∷ rest) journal so_far is =
    let next : Row → Result JournalRows JournalFault = λ row. if is_end row.kind then rows_at_end number before row.frame rest else rows_from plan (number + 1) (row ∷ before) rest in
    let read = then-Ok (row_of plan number before fields) next journal is in
    let is_accepted = row_of-Ok plan number before fields read.0 read.1 in
    elim (cases_Bool (is_end read.0.kind)) [
      | inl ends ↦ rows_at_end-Ok plan number before read.0 rest journal so_far is_accepted ends (rw ends at read.2)
      | inr goes_on ↦ rows_from-Ok plan (number + 1) (read.0 ∷ before) rest journal (so_far_more plan before read.0 so_far is_accepted goes_on) (rw goes_on at read.2)
    ]

where_tested : {A : Type 0} (test : Bool) (verdict : Result A JournalFault) (a : A) (fault : JournalFault) → (if test then verdict else Err fault) ≡ Ok a → verdict ≡ Ok a
where_tested true verdict a fault is = is
where_tested false verdict a fault is = cc

rows_of_records-Ok : (plan : PlanParts) (records : List Fields) (journal : JournalRows) → rows_of_records plan records ≡ Ok journal → AreJournalRows plan journal
rows_of_records-Ok plan [] journal is = cc
rows_of_records-Ok plan (header ∷ rest) journal is =
    rows_from-Ok plan 1 [] rest journal (record { rows = All-nil (IsRowOf plan); order = λ i j d before within. absurd (omega arith) })
    (where_tested (is_header header) (rows_from plan 1 [] rest) journal fault.Header is)

-- what the bytes of a journal give
pub journal_rows-Ok : (plan : PlanParts) (bytes : List ℕ) (journal : JournalRows) → journal_rows plan bytes ≡ Ok journal → AreJournalRows plan journal
unfolding journal_rows
journal_rows-Ok plan bytes journal is =
    rows_of_records-Ok plan (records_of bytes) journal (where_tested (nat_le (length bytes) 67_108_864) (rows_of_records plan (records_of bytes)) journal fault.TooLong is)
