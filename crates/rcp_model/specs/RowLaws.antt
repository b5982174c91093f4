-- What the rows of a frame say once one more is written. This project's own.
use Rattle.std.specs.Prelude.{ℕ, ◌≡◌, ◌<◌, ◌==◌, Bool, true, ◌&&◌, ℤ, List, set, Option, Some, if◌then◌else◌}
use Rattle.rcp_model.specs.FrameRows.{FrameRows, AreTables, is_down, slot_row, cell_row, act_row, lie_row, lie_slot_row, is_dropped, skew_of, rate_of, delay_of}
use Rattle.rcp_model.specs.RowWrites.{with_sensor, with_down, with_slot, with_cell, with_act, with_lie_slot, with_drop, with_skew, with_rate, with_delay, with_lie}

-- all that rows say, as functions of numbers
pub record RowsTold : Type 0 where
  pub sensors : List ℤ
  pub down : ℕ → Bool
  pub slot : ℕ → Option ℕ
  pub cell : ℕ → ℕ → Option ℤ
  pub act : ℕ → ℕ → Option ℤ
  pub lie : ℕ → ℕ → ℕ → Option ℤ
  pub lie_slot : ℕ → ℕ → Option ℕ
  pub dropped : ℕ → ℕ → Bool
  pub skew : ℕ → ℤ
  pub rate : ℕ → ℤ
  pub delay : ℕ → ℕ → ℤ

abbrev pub told_of : FrameRows → RowsTold
told_of rows = record {
  sensors = rows.sensors;
  down = is_down rows;
  slot = slot_row rows;
  cell = cell_row rows;
  act = act_row rows;
  lie = lie_row rows;
  lie_slot = lie_slot_row rows;
  dropped = is_dropped rows;
  skew = skew_of rows;
  rate = rate_of rows;
  delay = delay_of rows;
}

-- a function with another value at one place
abbrev pub at_one : {X : Type 0} → (ℕ → X) → ℕ → X → ℕ → X
at_one f place value k = if k == place then value else f k

abbrev pub at_pair : {X : Type 0} → (ℕ → ℕ → X) → ℕ → ℕ → X → ℕ → ℕ → X
at_pair f row column value r c = if (r == row) && (c == column) then value else f r c

abbrev pub at_triple : {X : Type 0} → (ℕ → ℕ → ℕ → X) → ℕ → ℕ → ℕ → X → ℕ → ℕ → ℕ → X
at_triple f row column place value r c k = if (r == row) && (c == column) && (k == place) then value else f r c k

-- each row reads back at its place, and all else is as before
pub record RowsReadBack (rows : FrameRows) : Type 0 where
  pub sensor : (sensor : ℕ) (value : ℤ) → told_of (with_sensor rows sensor value) ≡ record (told_of rows) { sensors = set rows.sensors sensor value }
  pub down : (p : ℕ) → p < rows.replicas → told_of (with_down rows p) ≡ record (told_of rows) { down = at_one (is_down rows) p true }
  pub slot : (p slot : ℕ) → p < rows.replicas → told_of (with_slot rows p slot) ≡ record (told_of rows) { slot = at_one (slot_row rows) p (Some slot) }
  pub skew : (p : ℕ) (x : ℤ) → p < rows.replicas → told_of (with_skew rows p x) ≡ record (told_of rows) { skew = at_one (skew_of rows) p x }
  pub rate : (p : ℕ) (x : ℤ) → p < rows.replicas → told_of (with_rate rows p x) ≡ record (told_of rows) { rate = at_one (rate_of rows) p x }
  pub cell :
      (p c : ℕ) (x : ℤ) → p < rows.replicas → c < rows.cells
      → told_of (with_cell rows p c x) ≡ record (told_of rows) { cell = at_pair (cell_row rows) p c (Some x) }
  pub act :
      (p a : ℕ) (x : ℤ) → p < rows.replicas → a < rows.actuators
      → told_of (with_act rows p a x) ≡ record (told_of rows) { act = at_pair (act_row rows) p a (Some x) }
  pub lie_slot :
      (p q slot : ℕ) → p < rows.replicas → q < rows.replicas
      → told_of (with_lie_slot rows p q slot) ≡ record (told_of rows) { lie_slot = at_pair (lie_slot_row rows) p q (Some slot) }
  pub dropped :
      (p q : ℕ) → p < rows.replicas → q < rows.replicas
      → told_of (with_drop rows p q) ≡ record (told_of rows) { dropped = at_pair (is_dropped rows) p q true }
  pub delay :
      (p q : ℕ) (x : ℤ) → p < rows.replicas → q < rows.replicas
      → told_of (with_delay rows p q x) ≡ record (told_of rows) { delay = at_pair (delay_of rows) p q x }
  pub lie :
      (p q c : ℕ) (x : ℤ) → p < rows.replicas → q < rows.replicas → c < rows.cells
      → told_of (with_lie rows p q c x) ≡ record (told_of rows) { lie = at_triple (lie_row rows) p q c (Some x) }

-- so it is of all rows whose tables have their sizes
abbrev pub EachRowReadsBack : Type 0
EachRowReadsBack = (rows : FrameRows) → AreTables rows → RowsReadBack rows
