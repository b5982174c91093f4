-- What the rows of the generator keep.
use Rattle.std.proofs.Common.{◌≡◌, ◌≢◌, ℕ, ◌==◌, ◌+◌, ◌/◌, ◌%◌, ◌<◌, ◌≤◌, ◌^◌, List, [], ◌∷◌, ◌++◌, length, flat_map, ℤ, pos, negsuc, Bool, true, false, refl, ap, ◌∙◌, inl, inr, arith, length-append, if◌then◌else◌}
use Rattle.std.proofs.Math.Nat.{mod-lt, mod-eq_of_lt, mod_self}
use Rattle.std.proofs.lemmas.Bool.{cases_lt, false_from_ne_true}
use Rattle.std.proofs.lemmas.Bool.Decides.{Decides-int_eq}
use Rattle.std.proofs.lemmas.Fmt.{length-decimal-le, length_signed_le}
use Rattle.std.proofs.lemmas.Int.{ints}
use Rattle.std.specs.Fmt.{decimal, signed_decimal}
use Rattle.std.specs.Ordering.{int_eq}
use Rattle.std.specs.Prelude.{◌-ℤ◌, ◌≤ℤ◌, neg_ℤ}
use Rattle.rcp_base.specs.Answers.{natural_of}
use Rattle.rcp_model.specs.declared.plan.PlanParts.{PlanParts}
use Rattle.rcp_model.specs.Plan.{IsPlan, variable_names}
use Rattle.rcp_model.specs.Slot.{slot_count}
use Rattle.fault_journal.specs.declared.row.Kind.{Kind}
use Rattle.fault_journal.specs.declared.row.Kind.TheVariants as kind
use Rattle.fault_journal.specs.declared.row.Row.{Row}
use Rattle.fault_journal.specs.Journal.{is_end, same_kind}
use Rattle.fault_journal.specs.Limits.{is_below, is_within_limits}
use Rattle.journal_gen.specs.declared.fault.Fault.{Fault}
use Rattle.journal_gen.specs.declared.fault.Fault.TheVariants as fault
use Rattle.journal_gen.specs.Generator.{fault_of, replica_of, row_of_fault, sensor_row}
use Rattle.journal_gen.specs.Written.{kind_word, line_text, name_at, row_text}
use Rattle.journal_gen.proofs.Each.{Each}
use Rattle.journal_gen.proofs.NameLemmas.{cell_name, sensor_name}
use Rattle.journal_gen.proofs.NumberLemmas.{integer_read, natural_read}
use Rattle.journal_gen.proofs.PlainLemmas.{IsPlain, decimal_plain, name_plain, name_short, signed_plain}
use Rattle.journal_gen.proofs.RowLemmas.{IsReadBack, cell_read, columns_text, down_read, drop_read, sensor_read, slot_read, written}
use lib.Signed.{mag}

-- a row of this frame, which is no end row, is read back and within the limits, has no comma in a column, and is short
pub record IsMade (plan : PlanParts) (now : ℕ) (row : Row) : Type 0 where
  pub frame : row.frame ≡ now
  pub few : now < 1_000_000
  pub reads : IsReadBack plan row
  pub limits : is_within_limits plan (written row) ≡ true
  pub plain : Each IsPlain (columns_text plan row)
  pub short : length (row_text plan row) ≤ 64
  pub goes_on : is_end row.kind ≡ false

-- how many bytes columns have together, with their commas
abbrev size_of : List (List ℕ) → ℕ
size_of [] = 0
size_of (column ∷ columns) = 1 + length column + size_of columns

columns_size : (columns : List (List ℕ)) → length (flat_map (λ (column : List ℕ). 44 ∷ column) columns) ≡ size_of columns
columns_size [] = refl
columns_size (column ∷ columns) =
    omega (arith, length-append (44 ∷ column) (flat_map (λ (c : List ℕ). 44 ∷ c) columns), columns_size columns)

pub line_size : (frame : ℕ) (word : List ℕ) (columns : List (List ℕ))
    → length (line_text frame word columns) ≡ length (decimal frame) + length word + size_of columns + 2
line_size frame word columns =
    let first = decimal frame ++ (44 ∷ []) in
    let rest = flat_map (λ (column : List ℕ). 44 ∷ column) columns in
    omega (
      arith,
      length-append (first ++ word ++ rest) (10 ∷ []),
      length-append (first ++ word) rest,
      length-append first word,
      length-append (decimal frame) (44 ∷ []),
      columns_size columns,
    )

pub below_true : (count n : ℕ) → n < count → is_below count (pos n) ≡ true
below_true count n less = grind (arith, ints)

-- a number within so far from 0
mag_within : (most : ℕ) (z : ℤ) → neg_ℤ (pos most) ≤ℤ z → z ≤ℤ pos most → mag z ≤ most
mag_within most (pos n) low high = omega (arith, ints, low, high)
mag_within most (negsuc n) low high = omega (arith, ints, low, high)

-- a small number has few digits
frame_short : (n : ℕ) → n < 1_000_000 → length (decimal n) ≤ 6
frame_short n small = length-decimal-le 6 n (omega arith) (omega (arith, small)) (omega (arith, small))

tens_short : (n : ℕ) → n < 100 → length (decimal n) ≤ 2
tens_short n small = length-decimal-le 2 n (omega arith) (omega (arith, small)) (omega (arith, small))

value_short : (z : ℤ) → mag z < 99_999 → length (signed_decimal z) ≤ 6
value_short z small = length_signed_le 5 z (omega (arith, small)) (omega (arith, small))

-- the value of a sensor row
sensor_value : (draw : ℕ) → mag (pos (draw / 128 % 201) -ℤ pos 100) < 99_999
sensor_value draw =
    let below = mod-lt (draw / 128) {m = 201} (omega arith) in
    let within = mag_within 300 (pos (draw / 128 % 201) -ℤ pos 100) (omega (arith, ints, below)) (omega (arith, ints, below)) in
    omega (arith, within)

-- the sensor row of a frame
pub sensor_made : (plan : PlanParts) (frame draw : ℕ) → IsPlan plan → frame < 1_000_000 → 0 < length plan.sensors
    → IsMade plan frame (sensor_row plan frame draw)
unfolding sensor_row is_within_limits row_text
sensor_made plan frame draw is few some =
    let item = draw / 2 % length plan.sensors in
    let value = pos (draw / 128 % 201) -ℤ pos 100 in
    let small = sensor_value draw in
    let name = sensor_name plan is item (mod-lt (draw / 2) some) in
    let text = name_at (variable_names plan.sensors) item in
    record {
      frame = refl;
      few = few;
      reads = sensor_read plan frame item value (natural_read frame (omega (arith, few))) name.place (integer_read value (omega (arith, small)));
      limits = rw (below_true 1_000_000 frame few, below_true plan.replicas 0 is.some_replicas) refl;
      plain = (name_plain text name.name, (signed_plain value (omega (arith, small)), (refl, (refl, tt))));
      short =
          omega (arith, line_size frame (kind_word kind.Sensor) (text ∷ signed_decimal value ∷ [] ∷ [] ∷ []), frame_short frame few, name_short text name.name, value_short value small);
      goes_on = refl;
    }

-- what a fault's numbers keep
abbrev pub IsFaultOf : PlanParts → ℕ → Fault → Type 0
IsFaultOf plan replica fault.Down = Unit {0}
IsFaultOf plan replica (fault.Cell cell value) = (cell < length plan.cells) × (mag value < 99_999)
IsFaultOf plan replica (fault.Slot slot) = slot < slot_count plan
IsFaultOf plan replica (fault.Drop receiver) = (receiver < plan.replicas) × (replica ≢ receiver)

-- what holds of each of four holds of the one that is chosen
chosen : {X : Type 0} (P : X → Type 0) (a b c : Bool) (x y z w : X) → P x → P y → P z → P w
    → P (if a then x else if b then y else if c then z else w)
chosen P true b c x y z w px py pz pw = px
chosen P false true c x y z w px py pz pw = py
chosen P false false true x y z w px py pz pw = pz
chosen P false false false x y z w px py pz pw = pw

-- the next replica in turn is another one
next_other : (replicas replica : ℕ) → 2 ≤ replicas → replica < replicas → replica ≢ (replica + 1) % replicas
next_other replicas replica some below same = elim (cases_lt (replica + 1) replicas) [
  | inl within ↦ omega (arith, same, mod-eq_of_lt within)
  | inr past ↦
      let last : replica + 1 ≡ replicas = omega (arith, past, below) in
      let zero : (replica + 1) % replicas ≡ 0 = ap (λ n. n % replicas) last ∙ mod_self replicas in
      omega (arith, same, zero, last, some)
]

cell_value : (draw : ℕ) → draw < 2 ^ 15 → mag (pos draw -ℤ pos 16_384) < 99_999
cell_value draw small =
    let within = mag_within 60_000 (pos draw -ℤ pos 16_384) (omega (arith, ints, small)) (omega (arith, ints, small)) in
    omega (arith, within)

-- the fault that a draw gives
pub fault_is : (plan : PlanParts) (draw : ℕ) → IsPlan plan → draw < 2 ^ 15 → 2 ≤ plan.replicas
    → IsFaultOf plan (replica_of plan draw) (fault_of plan draw)
unfolding fault_of
fault_is plan draw is small some =
    let choice = draw / 16 % 4 in
    let replica = replica_of plan draw in
    chosen (IsFaultOf plan replica) (choice == 0) (choice == 1) (choice == 2) _ _ _ _
    tt
    (mod-lt (draw / 64) is.cells.some, cell_value draw small)
    (mod-lt (draw / 64) is.slots.some)
    (mod-lt (replica + 1) is.some_replicas, next_other plan.replicas replica some (mod-lt draw is.some_replicas))

-- two numbers differ as integers too
differ : (a b : ℕ) → a ≢ b → int_eq (pos a) (pos b) ≡ false
differ a b other =
    false_from_ne_true (int_eq (pos a) (pos b))
    (λ same. other (ap natural_of ((Decides-int_eq (pos a) (pos b)).0 same)))

-- the row of a fault
pub fault_made : (plan : PlanParts) (frame replica : ℕ) (fault : Fault) → IsPlan plan → frame < 1_000_000 → replica < plan.replicas
    → IsFaultOf plan replica fault → IsMade plan frame (row_of_fault frame replica fault)
unfolding row_of_fault is_within_limits row_text
fault_made plan frame replica fault.Down is few below of_plan =
    let small : replica < 100 = omega (arith, below, is.few_replicas) in
    record {
      frame = refl;
      few = few;
      reads = down_read plan frame replica (natural_read frame (omega (arith, few))) (natural_read replica (omega (arith, small)));
      limits = rw (below_true 1_000_000 frame few, below_true plan.replicas 0 is.some_replicas, below_true plan.replicas replica below) refl;
      plain = (decimal_plain replica (omega (arith, small)), (refl, (refl, (refl, tt))));
      short =
          omega (arith, line_size frame (kind_word kind.Down) (decimal replica ∷ [] ∷ [] ∷ [] ∷ []), frame_short frame few, tens_short replica small);
      goes_on = refl;
    }
fault_made plan frame replica (fault.Cell cell value) is few below of_plan =
    let small : replica < 100 = omega (arith, below, is.few_replicas) in
    let name = cell_name plan is cell of_plan.0 in
    let text = name_at (variable_names plan.cells) cell in
    record {
      frame = refl;
      few = few;
      reads = cell_read plan frame replica cell value (natural_read frame (omega (arith, few))) (natural_read replica (omega (arith, small))) name.place (integer_read value (omega (arith, of_plan.1)));
      limits = rw (below_true 1_000_000 frame few, below_true plan.replicas 0 is.some_replicas, below_true plan.replicas replica below) refl;
      plain = (decimal_plain replica (omega (arith, small)), (name_plain text name.name, (signed_plain value (omega (arith, of_plan.1)), (refl, tt))));
      short =
          omega (
            arith,
            line_size frame (kind_word kind.Cell) (decimal replica ∷ text ∷ signed_decimal value ∷ [] ∷ []),
            frame_short frame few,
            tens_short replica small,
            name_short text name.name,
            value_short value of_plan.1,
          );
      goes_on = refl;
    }
fault_made plan frame replica (fault.Slot slot) is few below of_plan =
    let small : replica < 100 = omega (arith, below, is.few_replicas) in
    let tens : slot < 100 = omega (arith, of_plan, is.slots.few) in
    record {
      frame = refl;
      few = few;
      reads = slot_read plan frame replica slot (natural_read frame (omega (arith, few))) (natural_read replica (omega (arith, small))) (natural_read slot (omega (arith, tens)));
      limits = rw (below_true 1_000_000 frame few, below_true plan.replicas 0 is.some_replicas, below_true plan.replicas replica below, below_true (slot_count plan) slot of_plan) refl;
      plain = (decimal_plain replica (omega (arith, small)), (decimal_plain slot (omega (arith, tens)), (refl, (refl, tt))));
      short =
          omega (arith, line_size frame (kind_word kind.Slot) (decimal replica ∷ decimal slot ∷ [] ∷ [] ∷ []), frame_short frame few, tens_short replica small, tens_short slot tens);
      goes_on = refl;
    }
fault_made plan frame replica (fault.Drop receiver) is few below of_plan =
    let small : replica < 100 = omega (arith, below, is.few_replicas) in
    let tens : receiver < 100 = omega (arith, of_plan.0, is.few_replicas) in
    record {
      frame = refl;
      few = few;
      reads = drop_read plan frame replica receiver (natural_read frame (omega (arith, few))) (natural_read replica (omega (arith, small))) (natural_read receiver (omega (arith, tens)));
      limits =
          rw (below_true 1_000_000 frame few, below_true plan.replicas replica below, below_true plan.replicas receiver of_plan.0, differ replica receiver of_plan.1) refl;
      plain = (decimal_plain replica (omega (arith, small)), (decimal_plain receiver (omega (arith, tens)), (refl, (refl, tt))));
      short =
          omega (arith, line_size frame (kind_word kind.Drop) (decimal replica ∷ decimal receiver ∷ [] ∷ [] ∷ []), frame_short frame few, tens_short replica small, tens_short receiver tens);
      goes_on = refl;
    }

-- a fault row is no sensor row
pub fault_no_sensor : (frame replica : ℕ) (fault : Fault) → same_kind kind.Sensor (row_of_fault frame replica fault).kind ≡ false
unfolding row_of_fault
fault_no_sensor frame replica fault.Down = refl
fault_no_sensor frame replica (fault.Cell cell value) = refl
fault_no_sensor frame replica (fault.Slot slot) = refl
fault_no_sensor frame replica (fault.Drop receiver) = refl

-- a fault row is of its replica
pub fault_replica : (frame replica : ℕ) (fault : Fault) → (row_of_fault frame replica fault).replica ≡ replica
unfolding row_of_fault
fault_replica frame replica fault.Down = refl
fault_replica frame replica (fault.Cell cell value) = refl
fault_replica frame replica (fault.Slot slot) = refl
fault_replica frame replica (fault.Drop receiver) = refl

-- and of its frame
pub fault_frame : (frame replica : ℕ) (fault : Fault) → (row_of_fault frame replica fault).frame ≡ frame
unfolding row_of_fault
fault_frame frame replica fault.Down = refl
fault_frame frame replica (fault.Cell cell value) = refl
fault_frame frame replica (fault.Slot slot) = refl
fault_frame frame replica (fault.Drop receiver) = refl

-- the words of kinds have no comma
pub word_plain : (kind : Kind) → IsPlain (kind_word kind)
word_plain kind.Sensor = refl
word_plain kind.Down = refl
word_plain kind.Cell = refl
word_plain kind.Slot = refl
word_plain kind.Act = refl
word_plain kind.Lie = refl
word_plain kind.LieSlot = refl
word_plain kind.Drop = refl
word_plain kind.Skew = refl
word_plain kind.Rate = refl
word_plain kind.Delay = refl
word_plain kind.End = refl
