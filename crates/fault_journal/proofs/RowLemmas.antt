-- The fields of a row, and the frames of those before it.
use Rattle.std.proofs.Common.{◌≡◌, ℕ, ◌≤◌, Bool, true, false, List, [], ◌∷◌, length, ℤ, pos, int_le, int_lt, Some, None, zero, suc, sym, arith}
use Rattle.std.proofs.lemmas.Bool.{ltb-true, leb-true}
use Rattle.std.specs.Bool.{if◌then◌else◌}
use Rattle.csv.specs.Records.{field_at}
use Rattle.rcp_base.specs.Answers.{natural_of}
use Rattle.rcp_model.specs.declared.plan.PlanParts.{PlanParts}
use Rattle.fault_journal.specs.declared.row.Row.{Row}
use Rattle.fault_journal.specs.declared.row.WrittenRow.{WrittenRow}
use Rattle.fault_journal.specs.Journal.{six_fields, follows, is_end}
use Rattle.fault_journal.specs.Limits.{is_within_limits, packed}
use Rattle.fault_journal.specs.Seen.{FallFrom}
use Rattle.fault_journal.proofs.LimitLemmas.{are_limited}

-- a field that isn't there is after the last
pub absent_is_after : (fields : List (List ℕ)) (i : ℕ) → field_at fields i ≡ None → length fields ≤ i
unfolding field_at
absent_is_after [] i none = omega arith
absent_is_after (field ∷ fields) zero none = cc none
absent_is_after (field ∷ fields) (suc i) none = omega (arith, absent_is_after fields i none)

-- a record of six fields is that of the fields at its places
pub six_fields_at_places : (fields : List (List ℕ)) (frame kind a b c d : List ℕ) → length fields ≡ 6
    → field_at fields 0 ≡ Some frame → field_at fields 1 ≡ Some kind
    → field_at fields 2 ≡ Some a → field_at fields 3 ≡ Some b → field_at fields 4 ≡ Some c → field_at fields 5 ≡ Some d
    → Some (record { frame = frame; kind = kind; columns = a ∷ b ∷ c ∷ d ∷ [] }) ≡ six_fields fields
unfolding field_at
six_fields_at_places [] frame kind a b c d six e f g h i j = absurd (omega (arith, six))
six_fields_at_places (u ∷ []) frame kind a b c d six e f g h i j = cc f
six_fields_at_places (u ∷ v ∷ []) frame kind a b c d six e f g h i j = cc g
six_fields_at_places (u ∷ v ∷ w ∷ []) frame kind a b c d six e f g h i j = cc h
six_fields_at_places (u ∷ v ∷ w ∷ x ∷ []) frame kind a b c d six e f g h i j = cc i
six_fields_at_places (u ∷ v ∷ w ∷ x ∷ y ∷ []) frame kind a b c d six e f g h i j = cc j
six_fields_at_places (u ∷ v ∷ w ∷ x ∷ y ∷ z ∷ []) frame kind a b c d six e f g h i j = cc
six_fields_at_places (u ∷ v ∷ w ∷ x ∷ y ∷ z ∷ more ∷ rest) frame kind a b c d six e f g h i j = absurd (omega (arith, six))

not_before : (test : Bool) (last n : ℕ) (x : ℤ) → x ≡ pos n → (if test then int_lt (pos last) x else int_le (pos last) x) ≡ true → last ≤ n
not_before true last n x is before = omega (arith, ltb-true last n (rw is at before))
not_before false last n x is before = leb-true last n (rw is at before)

falls_after : (row : WrittenRow) (most : ℕ) (before : List Row) → row.frame ≡ pos (natural_of row.frame) → follows before row ≡ true
    → FallFrom most before → FallFrom (natural_of row.frame) before
falls_after row most [] is ordered falls = tt
falls_after row most (last ∷ before) is ordered falls =
    (not_before (is_end row.kind) last.frame (natural_of row.frame) row.frame is ordered, falls.1)

-- frames that never rise don't rise after a row that may follow
pub falls_after_row : (plan : PlanParts) (written : WrittenRow) (row : Row) (before : List Row) → plan.replicas ≤ 9
    → true ≡ is_within_limits plan written → row ≡ packed written → true ≡ follows before written
    → FallFrom 1_000_000 before → FallFrom row.frame before
falls_after_row plan written row before few limits is ordered falls =
    let limited = are_limited plan written few (sym limits) in
    rw is (falls_after written 1_000_000 before limited.frame.is_natural (sym ordered) falls)
