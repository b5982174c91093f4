-- A generated journal is no longer than a journal may be. Of two frames that follow each other at most one is even, and at most
-- one has a fault, so that they have two rows at most, of 64 bytes each.
use Rattle.std.proofs.Common.{◌≡◌, ℕ, zero, suc, ◌==◌, ◌+◌, ◌%◌, ◌*◌, ◌<◌, ◌≤◌, [], ◌∷◌, ◌++◌, Bool, true, false, ◌&&◌, if◌then◌else◌, refl, sym, ap, ◌∙◌, inl, inr, arith, length-append}
use Rattle.std.proofs.lemmas.Bool.{cases_Bool, eqb-true, ne_eqb}
use Rattle.std.proofs.lemmas.Fmt.{length-decimal-le}
use Rattle.std.specs.Prelude.{codes, length, nat_le, nat_lt}
use Rattle.rcp_model.specs.declared.plan.PlanParts.{PlanParts}
use Rattle.rcp_model.specs.Plan.{IsPlan}
use Rattle.fault_journal.specs.declared.row.Kind.TheVariants as kind
use Rattle.fault_journal.specs.declared.row.Row.{Row}
use Rattle.journal_gen.specs.Draws.{drawn, next_seed}
use Rattle.journal_gen.specs.Generator.{fault_row, fault_rows, has_fault, has_sensor_row, journal_text, period, rows_before, rows_of_frame, rows_text, seed_before, sensor_row, sensor_rows}
use Rattle.journal_gen.specs.Written.{kind_word, line_text, row_text}
use Rattle.journal_gen.proofs.FrameLemmas.{fault_comes, sensor_comes, where_comes}
use Rattle.journal_gen.proofs.MadeLemmas.{line_size}
use Rattle.journal_gen.proofs.PeriodLemmas.{next_differs}
use Rattle.journal_gen.proofs.TextLemmas.{rows_text_more}

-- as many bytes, where something comes
abbrev bytes_where : Bool → ℕ
bytes_where comes = if comes then 64 else 0

row_bytes : (plan : PlanParts) (row : Row) (comes : Bool) → (comes ≡ true → length (row_text plan row) ≤ 64)
    → length (rows_text plan (where_comes comes row)) ≤ bytes_where comes
row_bytes plan row false short = omega arith
row_bytes plan row true short = omega (arith, short refl, length-append (row_text plan row) [])

-- the frame is even
abbrev is_even : ℕ → Bool
is_even frame = frame % 2 == 0

even_bytes : (plan : PlanParts) (frame draw : ℕ) → bytes_where (has_sensor_row plan frame draw) ≤ bytes_where (is_even frame)
unfolding has_sensor_row
even_bytes plan frame draw = by_tests (nat_lt 0 (length plan.sensors)) (is_even frame) (draw % 2 == 0)
  where
    by_tests : (a b c : Bool) → bytes_where (a && b && c) ≤ bytes_where b
    by_tests true true true = omega arith
    by_tests true true false = omega arith
    by_tests true false c = omega arith
    by_tests false true c = omega arith
    by_tests false false c = omega arith

frame_bytes : (plan : PlanParts) (recovery now seed : ℕ) → IsPlan plan → now < 1_000_000
    → length (rows_text plan (rows_of_frame plan recovery now seed)) ≤ bytes_where (is_even now) + bytes_where (has_fault plan recovery now)
unfolding rows_of_frame sensor_rows fault_rows
frame_bytes plan recovery now seed is few =
    let first = next_seed seed in
    let draw = drawn first in
    let other = drawn (next_seed first) in
    let sensor = where_comes (has_sensor_row plan now draw) (sensor_row plan now draw) in
    let fault = where_comes (has_fault plan recovery now) (fault_row plan now other) in
    omega (
      arith,
      ap length (rows_text_more plan sensor fault),
      length-append (rows_text plan sensor) (rows_text plan fault),
      row_bytes plan (sensor_row plan now draw) (has_sensor_row plan now draw) (λ comes. (sensor_comes plan now draw is few comes).short),
      row_bytes plan (fault_row plan now other) (has_fault plan recovery now) (λ comes. (fault_comes plan recovery now first is few comes).short),
      even_bytes plan now draw,
    )

-- of two numbers that follow each other at most one is even
even_once : (frame : ℕ) → bytes_where (is_even frame) + bytes_where (is_even (suc frame)) ≤ 64
even_once frame = elim (cases_Bool (is_even frame)) [
  | inl even ↦
      let odd : (suc frame % 2 == 0) ≡ false = ne_eqb (suc frame % 2) 0 (λ also. omega (arith, eqb-true (frame % 2) 0 even, also)) in
      rw (even, odd) (omega arith)
  | inr odd ↦ rw odd (at_most (is_even (suc frame)))
]
  where
    at_most : (b : Bool) → 0 + bytes_where b ≤ 64
    at_most true = omega arith
    at_most false = omega arith

-- nor does a fault come in both
fault_once : (plan : PlanParts) (recovery frame : ℕ)
    → bytes_where (has_fault plan recovery frame) + bytes_where (has_fault plan recovery (suc frame)) ≤ 64
unfolding has_fault
fault_once plan recovery frame = elim (cases_Bool (frame % period recovery == recovery)) [
  | inl comes ↦
      let here = eqb-true (frame % period recovery) recovery comes in
      let none : (suc frame % period recovery == recovery) ≡ false =
      ne_eqb (suc frame % period recovery) recovery (λ also. next_differs frame (period recovery) (omega arith) (also ∙ sym here)) in
      rw (comes, none) (at_most (nat_le 3 plan.replicas))
  | inr none ↦ rw none (at_most_next (nat_le 3 plan.replicas) (suc frame % period recovery == recovery))
]
  where
    at_most : (b : Bool) → bytes_where (b && true) + bytes_where (b && false) ≤ 64
    at_most true = omega arith
    at_most false = omega arith

    at_most_next : (a b : Bool) → bytes_where (a && false) + bytes_where (a && b) ≤ 64
    at_most_next true true = omega arith
    at_most_next true false = omega arith
    at_most_next false b = omega arith

-- the rows of the first frames
rows_bytes : (plan : PlanParts) (recovery number frames : ℕ) → IsPlan plan → frames ≤ 1_000_000
    → length (rows_text plan (rows_before plan recovery number frames)) ≤ 64 * frames + 64
rows_bytes plan recovery number zero is few = omega arith
rows_bytes plan recovery number (suc zero) is few =
    let seed = seed_before plan recovery number 0 in
    omega (arith, frame_bytes plan recovery 0 seed is (omega arith), even_once 0, fault_once plan recovery 0)
rows_bytes plan recovery number (suc (suc now)) is few =
    let before = rows_before plan recovery number now in
    let first = rows_of_frame plan recovery now (seed_before plan recovery number now) in
    let second = rows_of_frame plan recovery (suc now) (seed_before plan recovery number (suc now)) in
    omega (
      arith,
      few,
      rows_bytes plan recovery number now is (omega (arith, few)),
      ap length (rows_text_more plan (before ++ first) second),
      length-append (rows_text plan (before ++ first)) (rows_text plan second),
      ap length (rows_text_more plan before first),
      length-append (rows_text plan before) (rows_text plan first),
      frame_bytes plan recovery now (seed_before plan recovery number now) is (omega (arith, few)),
      frame_bytes plan recovery (suc now) (seed_before plan recovery number (suc now)) is (omega (arith, few)),
      even_once now,
      fault_once plan recovery now,
    )

-- the whole text
pub text_fits : (plan : PlanParts) (recovery number frames : ℕ) → IsPlan plan → frames ≤ 1_000_000
    → length (journal_text plan recovery number frames) ≤ 67_108_864
unfolding journal_text row_text
text_fits plan recovery number frames is few =
    let header = codes "frame,kind,a,b,c,d\n" in
    let rows = rows_text plan (rows_before plan recovery number frames) in
    let end = line_text frames (kind_word kind.End) ([] ∷ [] ∷ [] ∷ [] ∷ []) in
    omega (
      arith,
      few,
      rows_bytes plan recovery number frames is few,
      length-append (header ++ rows) end,
      length-append header rows,
      line_size frames (kind_word kind.End) ([] ∷ [] ∷ [] ∷ [] ∷ []),
      length-decimal-le 7 frames (omega arith) (omega (arith, few)) (omega (arith, few)),
    )
