-- A read takes the first of the records that are left.
-- This project's own.
use Rattle.std.proofs.Common.{◌≡◌, add-one, ℕ, zero, suc, ◌+◌, ◌≤◌, ◌<◌, List, [], ◌∷◌, ◌++◌, length, Bool, true, false, cond, Option, Some, None, Bor, ap, refl, sym, ◌∙◌, arith, subst}
use Rattle.std.specs.Prelude.{IsSome}
use Rattle.csv.specs.Machine.{Read, next_record, step, is_end, ends_at_end, fields_after, field_after}
use Rattle.csv.specs.Reading.{NextIs, Ready, ReadRecord, ReadsNext, default_config, has_failed, is_bom, records_from, records_next, strip_bom}
use Rattle.csv.specs.declared.reader.Reader.{Reader}
use Rattle.csv.specs.declared.reader.Trim.TheVariants as trim
use Rattle.csv.specs.Records.{Row, fields_of}
use Rattle.csv.specs.declared.parser.Config.{Config}
use Rattle.csv.specs.declared.parser.State.{State}
use Rattle.csv.specs.declared.parser.State.TheVariants as st
use Rattle.fault_journal.specs.Journal.{Fields, records_of}
use Rattle.fault_journal.specs.Records.{CanRead, CanReadOn, Takes, bytes_left, records_view, records_left}

-- a read that ends here, or goes on
ends_or_goes_on : (ends : Bool) (here : Read) (further : Option Read) (p : Read) (n : ℕ)
    → cond ends (Some here) further ≡ Some p → length here.2 ≤ n → (further ≡ Some p → length p.2 ≤ n) → length p.2 ≤ n
ends_or_goes_on true here further p n is short on =
    let same : here ≡ p = cc in
    let P : Read → Type 0 = λ q. length q.2 ≤ n in subst P same short
ends_or_goes_on false here further p n is short on = on is

-- a record that the end of the text ends
read_at_end : (cfg : Config) (s : State) (fields : Fields) (field : List ℕ) (p : Read)
    → next_record cfg s fields field [] ≡ Some p → (p.1 ≡ st.StartRecord) × (p.2 ≡ [])
unfolding next_record
read_at_end cfg s fields field p is = at (ends_at_end s) is
  where
    at : (ends : Bool) → cond ends (Some (fields ++ (field ∷ []), st.StartRecord, [])) None ≡ Some p → (p.1 ≡ st.StartRecord) × (p.2 ≡ [])
    at true here =
        let last : Read = (fields ++ (field ∷ []), st.StartRecord, []) in
        let same : last ≡ p = cc in
        let P : Read → Type 0 = λ q. (q.1 ≡ st.StartRecord) × (q.2 ≡ []) in subst P same (refl, refl)
    at false here = cc here

-- each record takes a byte, but for one that the end of the text ends
takes_a_byte : (cfg : Config) (s : State) (fields : Fields) (field : List ℕ) (c : ℕ) (rest : List ℕ) (p : Read)
    → next_record cfg s fields field (c ∷ rest) ≡ Some p → length p.2 ≤ length rest
unfolding next_record
takes_a_byte cfg s fields field c [] p is =
    ends_or_goes_on (is_end (step cfg s c).1) (fields_after (step cfg s c).1 fields field, (step cfg s c).0, [])
    (next_record cfg (step cfg s c).0 (fields_after (step cfg s c).1 fields field) (field_after (step cfg s c).1 c field) []) p 0 is (omega arith)
    (λ on.
    let last = read_at_end cfg (step cfg s c).0 (fields_after (step cfg s c).1 fields field) (field_after (step cfg s c).1 c field) p on in
    omega (arith, ap length last.1))
takes_a_byte cfg s fields field c (d ∷ rest) p is =
    ends_or_goes_on (is_end (step cfg s c).1) (fields_after (step cfg s c).1 fields field, (step cfg s c).0, d ∷ rest)
    (next_record cfg (step cfg s c).0 (fields_after (step cfg s c).1 fields field) (field_after (step cfg s c).1 c field) (d ∷ rest)) p (suc (length rest)) is (omega arith)
    (λ on. omega (arith, takes_a_byte cfg (step cfg s c).0 (fields_after (step cfg s c).1 fields field) (field_after (step cfg s c).1 c field) d rest p on))

-- after the end of the text there is no record
none_after_the_end : (cfg : Config) (n : ℕ) → records_from cfg n st.StartRecord [] ≡ []
unfolding records_from next_record
none_after_the_end cfg zero = refl
none_after_the_end cfg (suc n) = refl

-- what a read gives is the same by two bounds, if what is after it is
enough_next : (cfg : Config) (n m : ℕ) (s : State) (xs : List ℕ) (next : Option Read)
    → ((t : State) (ys : List ℕ) → length ys < n → length ys < m → records_from cfg n t ys ≡ records_from cfg m t ys)
    → next_record cfg s [] [] xs ≡ next → length xs ≤ n → length xs ≤ m
    → records_next (records_from cfg n) next ≡ records_next (records_from cfg m) next
enough_next cfg n m s xs None same is below under = refl
enough_next cfg n m s [] (Some p) same is below under =
    let last = read_at_end cfg s [] [] p is in
    ap (λ more. p.0 ∷ more) (rw (last.0, last.1) (none_after_the_end cfg n ∙ sym (none_after_the_end cfg m)))
enough_next cfg n m s (c ∷ xs) (Some p) same is below under =
    let short = takes_a_byte cfg s [] [] c xs p is in
    ap (λ more. p.0 ∷ more) (same p.1 p.2 (omega arith) (omega arith))

-- any bound above the number of bytes gives all records
enough : (cfg : Config) (n m : ℕ) (s : State) (xs : List ℕ) → length xs < n → length xs < m → records_from cfg n s xs ≡ records_from cfg m s xs
unfolding records_from
enough cfg zero m s xs big large = absurd (omega arith)
enough cfg (suc n) zero s xs big large = absurd (omega arith)
enough cfg (suc n) (suc m) s xs big large =
    enough_next cfg n m s xs (next_record cfg s [] [] xs) (λ t ys. enough cfg n m t ys) refl (omega arith) (omega arith)

-- what is left after a record
left_after : (cfg : Config) (s : State) (xs : List ℕ) (p : Read)
    → next_record cfg s [] [] xs ≡ Some p → records_from cfg (length xs) p.1 p.2 ≡ records_from cfg (length p.2 + 1) p.1 p.2
left_after cfg s [] p is =
    let last = read_at_end cfg s [] [] p is in
    rw (last.0, last.1) (none_after_the_end cfg 0 ∙ sym (none_after_the_end cfg 1))
left_after cfg s (c ∷ xs) p is =
    let short = takes_a_byte cfg s [] [] c xs p is in
    enough cfg (length (c ∷ xs)) (length p.2 + 1) p.1 p.2 (omega arith) (omega arith)

-- what was read is the first of the records that were left
takes_read : (s t : State) (xs ys : List ℕ) (found : Bool) (row : Row) (next : Option Read)
    → next_record default_config s [] [] xs ≡ next → NextIs next found (fields_of row) t ys
    → Takes (records_next (records_from default_config (length xs)) next) found (record { at_hand = row; left = records_left t (Some ys) })
takes_read s t xs ys found row None is read = read
takes_read s t xs ys found row (Some p) is read =
    (read.0, read.1, rw (read.2, read.3) (sym (left_after default_config s xs p is)))

takes_next : (s t : State) (old new : Option (List ℕ)) (found : Bool) (row : Row)
    → IsSome old → ReadsNext default_config s old new found (fields_of row) t
    → Takes (records_left s old) found (record { at_hand = row; left = records_left t new })
unfolding records_from
takes_next s t None new found row known read = cc known
takes_next s t (Some xs) None found row known read = absurd read
takes_next s t (Some xs) (Some ys) found row known read =
    rw (add-one (length xs)) (takes_read s t xs ys found row (next_record default_config s [] [] xs) refl read)

-- a read takes the first of the records that were left, where the reader has not failed
takes_on : (old new : Reader (Bor (List ℕ))) (row : Row) (found : Bool) → CanRead old
    → ReadRecord (λ bytes. Some bytes.now) old new found (fields_of row)
    → Takes (records_left old.state (bytes_left old)) found (records_view new row)
takes_on old new row found can read =
    rw read.1 (takes_next old.state new.state (bytes_left old) _ found row can.known (rw can.usual at read.0))

pub takes : (old new : Reader (Bor (List ℕ))) (row : Row) (found : Bool)
    → CanReadOn old → (has_failed old ≡ true → found ≡ false)
    → (old.trim ≡ trim.None → Ready old → ReadRecord (λ bytes. Some bytes.now) old new found (fields_of row))
    → Takes (records_left old.state (bytes_left old)) found (records_view new row)
takes old new row found can none read = at (has_failed old) refl
  where
    at : (failed : Bool) → has_failed old ≡ failed → Takes (records_left old.state (bytes_left old)) found (records_view new row)
    at true is = rw is (none is)
    at false is =
        let able = can is in
        takes_on old new row found able (read able.plain able.ready)

-- what a read gives is short, if what is after it is
few_next : (cfg : Config) (n : ℕ) (next : Option Read) → ((t : State) (ys : List ℕ) → length (records_from cfg n t ys) ≤ n)
    → length (records_next (records_from cfg n) next) ≤ suc n
few_next cfg n None few = omega arith
few_next cfg n (Some p) few = omega (arith, few p.1 p.2)

-- a bound on how many records there are
few_from : (cfg : Config) (n : ℕ) (s : State) (xs : List ℕ) → length (records_from cfg n s xs) ≤ n
unfolding records_from
few_from cfg zero s xs = omega arith
few_from cfg (suc n) s xs = few_next cfg n (next_record cfg s [] [] xs) (λ t ys. few_from cfg n t ys)

no_longer : (xs : List ℕ) → length (strip_bom xs) ≤ length xs
unfolding strip_bom
no_longer [] = omega arith
no_longer (a ∷ []) = omega arith
no_longer (a ∷ b ∷ []) = omega arith
no_longer (a ∷ b ∷ c ∷ rest) = at (is_bom a b c)
  where
    at : (mark : Bool) → length (cond mark rest (a ∷ b ∷ c ∷ rest)) ≤ length (a ∷ b ∷ c ∷ rest)
    at true = omega arith
    at false = omega arith

-- there are at most as many records as bytes, and one
pub few_records : (bytes : List ℕ) → length (records_of bytes) ≤ length bytes + 1
few_records bytes = omega (arith, few_from default_config (length (strip_bom bytes) + 1) st.StartRecord (strip_bom bytes), no_longer bytes)
