-- What the stamps tell of the rows before.
use Rattle.std.proofs.Common.{◌≡◌, ℕ, ◌+◌, ◌*◌, ◌<◌, ◌≤◌, ◌==◌, nat_eq, Bool, false, ◌||◌, List, [], ◌∷◌, refl, inl, inr, arith}
use Rattle.std.proofs.lemmas.Bool.Decides.{nat_tests, eqb_tells}
use Rattle.std.proofs.lemmas.List.Elements.{All-head, All-tail}
use Rattle.std.specs.List.{list_any, All}
use Rattle.fault_journal.specs.declared.row.Row.{Row}
use Rattle.fault_journal.specs.Journal.{kind_number, repeats}
use Rattle.fault_journal.specs.Seen.{HasPlace, key_place, stamp_at, FallFrom}

-- one place has one key
same_place : (k k' r r' q q' i i' : ℕ) → r < 9 → r' < 9 → q < 9 → q' < 9 → i < 64 → i' < 64
    → ((k * 9 + r) * 9 + q) * 64 + i ≡ ((k' * 9 + r') * 9 + q') * 64 + i' → (k ≡ k') × (r ≡ r') × (q ≡ q') × (i ≡ i')
same_place k k' r r' q q' i i' a a' b b' c c' same = (omega arith, omega arith, omega arith, omega arith)

-- a row repeats those of its place that have its frame
repeats_there : (row other : Row) → HasPlace row → HasPlace other → key_place other ≡ key_place row → repeats row other ≡ (other.frame == row.frame)
repeats_there row other here there same =
    let parts = same_place (kind_number other.kind) (kind_number row.kind) other.replica row.replica other.receiver row.receiver other.item row.item
    there.replica here.replica there.receiver here.receiver there.item here.item same in
    grind (arith, nat_tests)

repeats_elsewhere : (row other : Row) → (key_place other ≡ key_place row → ⊥) → repeats row other ≡ false
repeats_elsewhere row other apart = grind (arith, nat_tests)

repeats_no_other : (row other : Row) → (other.frame == row.frame) ≡ false → repeats row other ≡ false
repeats_no_other row other apart = rw apart refl

first_differs : (r rest : Bool) (f g : ℕ) → f < g → ((f == g) ≡ false → r ≡ false) → rest ≡ false → (r || rest) ≡ false
first_differs r rest f g less apart none = grind (arith, nat_tests)

first_decides : (r rest : Bool) (f g : ℕ) → f ≤ g → r ≡ (f == g) → (f < g → rest ≡ false) → nat_eq (f + 1) (g + 1) ≡ (r || rest)
first_decides r rest f g le is none = grind (arith, nat_tests)

falls_wider : (a b : ℕ) (before : List Row) → a ≤ b → FallFrom a before → FallFrom b before
falls_wider a b [] le falls = tt
falls_wider a b (row ∷ before) le falls = (omega (arith, le, falls.0), falls.1)

-- no row repeats one of an earlier frame
none_repeats : (row : Row) (most : ℕ) (before : List Row) → FallFrom most before → most < row.frame → list_any (repeats row) before ≡ false
none_repeats row most [] falls less = refl
none_repeats row most (other ∷ before) falls less =
    let rest : list_any (repeats row) before ≡ false = none_repeats row other.frame before falls.1 (omega (arith, falls.0, less)) in
    first_differs (repeats row other) (list_any (repeats row) before) other.frame row.frame (omega (arith, falls.0, less)) (repeats_no_other row other) rest

-- the stamp at a row's place tells whether the row repeats one before
pub repeats_by_stamp : (row : Row) (before : List Row) → HasPlace row → All HasPlace before → FallFrom row.frame before
    → nat_eq (stamp_at before (key_place row)) (row.frame + 1) ≡ list_any (repeats row) before
repeats_by_stamp row [] here places falls = grind (arith, nat_tests)
repeats_by_stamp row (other ∷ before) here places falls =
    elim (eqb_tells (key_place other) (key_place row)) [
      | inl same ↦
          rw same.0
          (first_decides (repeats row other) (list_any (repeats row) before) other.frame row.frame falls.0
          (repeats_there row other here (All-head HasPlace other before places) same.1)
          (none_repeats row other.frame before falls.1))
      | inr apart ↦
          rw (apart.0, repeats_elsewhere row other apart.1)
          (repeats_by_stamp row before here (All-tail HasPlace other before places) (falls_wider other.frame row.frame before falls.0 falls.1))
    ]
