-- All rows of the generator are read back, one after the other.
use Rattle.std.proofs.Common.{◌≡◌, ℕ, ◌==◌, ◌+◌, ◌<◌, ◌≤◌, List, [], ◌∷◌, ◌++◌, map, Ok, pos, int_le, Bool, true, false, ◌&&◌, refl, arith}
use Rattle.std.proofs.lemmas.Bool.{ne_eqb}
use Rattle.std.proofs.lemmas.Int.{ints}
use Rattle.std.specs.List.{list_any}
use Rattle.rcp_model.specs.declared.plan.PlanParts.{PlanParts}
use Rattle.fault_journal.specs.declared.row.Row.{Row}
use Rattle.fault_journal.specs.Journal.{Fields, follows, is_end, repeats, row_of, rows_from, same_kind}
use Rattle.journal_gen.proofs.Each.{Each}
use Rattle.journal_gen.proofs.RowLemmas.{fields_of, written}

-- rows before these, and then these, the last one first
abbrev pub newest : List Row → List Row → List Row
newest [] before = before
newest (row ∷ rows) before = newest rows (row ∷ before)

pub newest_append : (rows more before : List Row) → newest (rows ++ more) before ≡ newest more (newest rows before)
newest_append [] more before = refl
newest_append (row ∷ rows) more before = newest_append rows more (row ∷ before)

-- each row is read after those before it
abbrev pub CanRead : PlanParts → List Row → List Row → Type 0
CanRead plan before [] = Unit {0}
CanRead plan before (row ∷ rows) =
    ((number : ℕ) → row_of plan number before (fields_of plan row) ≡ Ok row) × (is_end row.kind ≡ false) × CanRead plan (row ∷ before) rows

pub can_read_append : (plan : PlanParts) (before rows more : List Row) → CanRead plan before rows → CanRead plan (newest rows before) more
    → CanRead plan before (rows ++ more)
can_read_append plan before [] more first second = second
can_read_append plan before (row ∷ rows) more first second = (first.0, first.1, can_read_append plan (row ∷ before) rows more first.2 second)

-- the number of the row after these
abbrev pub number_after : ℕ → List Row → ℕ
number_after number [] = number
number_after number (row ∷ rows) = number_after (number + 1) rows

pub rows_read : (plan : PlanParts) (number : ℕ) (before rows : List Row) (rest : List Fields) → CanRead plan before rows
    → rows_from plan number before (map (fields_of plan) rows ++ rest) ≡ rows_from plan (number_after number rows) (newest rows before) rest
rows_read plan number before [] rest can = refl
rows_read plan number before (row ∷ rows) rest can =
    rw (can.0 number, can.1) (rows_read plan (number + 1) (row ∷ before) rows rest can.2)

-- no row is of a later frame, or none is of this one
abbrev pub UpTo : ℕ → List Row → Type 0
UpTo now rows = Each (λ row. row.frame ≤ now) rows

abbrev pub Before : ℕ → List Row → Type 0
Before now rows = Each (λ row. row.frame < now) rows

pub in_order : (before : List Row) (row : Row) → UpTo row.frame before → is_end row.kind ≡ false → follows before (written row) ≡ true
in_order [] row upto goes_on = refl
in_order (last ∷ before) row upto goes_on =
    let first : last.frame ≤ row.frame = upto.0 in
    let order : int_le (pos last.frame) (pos row.frame) ≡ true = grind (arith, ints) in
    rw goes_on order

-- a row of a frame repeats none of an earlier one
pub is_new : (before : List Row) (row : Row) → Before row.frame before → list_any (repeats row) before ≡ false
is_new [] row earlier = refl
is_new (other ∷ before) row earlier =
    let first : other.frame < row.frame = earlier.0 in
    rw (ne_eqb other.frame row.frame (λ same. omega (arith, first, same)), is_new before row earlier.1) refl

-- nor does it repeat a sensor row of its frame, where it is of another kind
pub is_new_after : (before : List Row) (sensor row : Row) → Before row.frame before → same_kind sensor.kind row.kind ≡ false
    → list_any (repeats row) (sensor ∷ before) ≡ false
is_new_after before sensor row earlier other =
    let this : repeats row sensor ≡ false = by_kind (sensor.frame == row.frame) in
    rw (this, is_new before row earlier) refl
  where
    by_kind : (b : Bool) → (b && same_kind sensor.kind row.kind && (sensor.replica == row.replica) && (sensor.receiver == row.receiver) && (sensor.item == row.item)) ≡ false
    by_kind true = rw other refl
    by_kind false = refl
