-- The header, the rows after it and the end row, one after the other.
-- This project's own.
use Rattle.std.proofs.Common.{◌≡◌, ℕ, ◌+◌, ◌≤◌, ◌<◌, List, [], ◌∷◌, length, Bool, true, false, cond, eqb, leb, Ok, Err, refl, ap, sym, ◌∙◌, arith}
use Rattle.std.proofs.lemmas.Bool.{lt-leb, le-leb, ne_eqb}
use Rattle.csv.specs.Records.{field_at}
use Rattle.rcp_base.specs.Answers.{IsFaultOr}
use Rattle.fault_journal.specs.Fault.{is_journal_memory}
use Rattle.rcp_model.specs.declared.plan.PlanParts.{PlanParts}
use Rattle.fault_journal.specs.declared.fault.JournalFault.{JournalFault}
use Rattle.fault_journal.specs.declared.fault.JournalFault.TheVariants as fault
use Rattle.fault_journal.specs.Journal.{Fields, is_header, journal_rows, records_of, rows_from, rows_of_records}
use Rattle.fault_journal.specs.Rows.{after_header, has_header}
use Rattle.rcp_base.proofs.ReaderLaws.{fault_along}
use Rattle.fault_journal.proofs.RecordLemmas.{few_records}

-- the header's fields, each by its place
pub header_by_place : (fields : Fields) → is_header fields ≡ has_header fields
unfolding field_at
header_by_place [] = refl
header_by_place (a ∷ []) = refl
header_by_place (a ∷ b ∷ []) = refl
header_by_place (a ∷ b ∷ c ∷ []) = refl
header_by_place (a ∷ b ∷ c ∷ d ∷ []) = refl
header_by_place (a ∷ b ∷ c ∷ d ∷ e ∷ []) = refl
header_by_place (a ∷ b ∷ c ∷ d ∷ e ∷ f ∷ []) = refl
header_by_place (a ∷ b ∷ c ∷ d ∷ e ∷ f ∷ g ∷ rest) =
    let long : eqb (length (a ∷ b ∷ c ∷ d ∷ e ∷ f ∷ g ∷ rest)) 6 ≡ false = ne_eqb _ _ (omega arith) in
    rw long refl

-- a header that is none
no_header : (plan : PlanParts) (records : List Fields) (why : JournalFault) → after_header records ≡ Err why → rows_of_records plan records ≡ Err why
no_header plan [] why is =
    let same : fault.Header ≡ why = cc is in
    ap Err same
no_header plan (header ∷ rest) why is = at (is_header header) is
  where
    at : (b : Bool) → cond b (Ok rest) (Err fault.Header) ≡ Err why → cond b (rows_from plan 1 [] rest) (Err fault.Header) ≡ Err why
    at true here = cc here
    at false here =
        let same : fault.Header ≡ why = cc here in
        ap Err same

-- a header, and what is after it
header_first : (plan : PlanParts) (records rest : List Fields) → after_header records ≡ Ok rest
    → (rows_of_records plan records ≡ rows_from plan 1 [] rest) × (length rest + 1 ≤ length records)
header_first plan [] rest is = cc is
header_first plan (header ∷ past) rest is = at (is_header header) is
  where
    at : (b : Bool) → cond b (Ok past) (Err fault.Header) ≡ Ok rest
        → (cond b (rows_from plan 1 [] past) (Err fault.Header) ≡ rows_from plan 1 [] rest) × (length rest + 1 ≤ length (header ∷ past))
    at true here =
        let same : past ≡ rest = cc in
        rw same (refl, omega arith)
    at false here = cc here

-- more bytes than a journal has
pub too_long : (plan : PlanParts) (bytes : List ℕ) → 67_108_864 < length bytes → journal_rows plan bytes ≡ Err fault.TooLong
unfolding journal_rows
too_long plan bytes long =
    let is : leb (length bytes) 67_108_864 ≡ false = lt-leb (length bytes) 67_108_864 long in
    rw is refl

short_enough : (plan : PlanParts) (bytes : List ℕ) → length bytes ≤ 67_108_864 → journal_rows plan bytes ≡ rows_of_records plan (records_of bytes)
unfolding journal_rows
short_enough plan bytes short =
    let is : leb (length bytes) 67_108_864 ≡ true = le-leb (length bytes) 67_108_864 short in
    rw is refl

-- a header that is none is the journal's fault
pub no_journal : (plan : PlanParts) (bytes : List ℕ) (records : List Fields) (why : JournalFault)
    → length bytes ≤ 67_108_864 → records ≡ records_of bytes → IsFaultOr (is_journal_memory why) why (after_header records) → IsFaultOr (is_journal_memory why) why (journal_rows plan bytes)
no_journal plan bytes records why short are said =
    fault_along (is_journal_memory why) why (after_header records) (journal_rows plan bytes) said
    (λ is. short_enough plan bytes short ∙ (ap (rows_of_records plan) (sym are) ∙ no_header plan records why is))

-- after a header, the rows are the journal's
pub journal_after_header : (plan : PlanParts) (bytes : List ℕ) (records rest : List Fields)
    → length bytes ≤ 67_108_864 → records ≡ records_of bytes → after_header records ≡ Ok rest
    → journal_rows plan bytes ≡ rows_from plan 1 [] rest
journal_after_header plan bytes records rest short are is =
    short_enough plan bytes short ∙ (ap (rows_of_records plan) (sym are) ∙ (header_first plan records rest is).0)

-- and they are few
pub few_after_header : (plan : PlanParts) (bytes : List ℕ) (records rest : List Fields)
    → length bytes ≤ 67_108_864 → records ≡ records_of bytes → after_header records ≡ Ok rest
    → length rest ≤ 67_108_864
few_after_header plan bytes records rest short are is =
    omega (arith, few_records bytes, ap length are, (header_first plan records rest is).1)
