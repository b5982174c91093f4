-- A row that is read from what was written of it.
use Rattle.std.proofs.Common.{◌≡◌, ℕ, List, ◌∷◌, map, Some, Ok, ℤ, pos, true, false, refl}
use Rattle.std.specs.Fmt.{decimal, signed_decimal}
use Rattle.std.specs.List.{list_any}
use Rattle.rcp_base.specs.Answers.{place_in}
use Rattle.rcp_model.specs.declared.plan.PlanParts.{PlanParts}
use Rattle.rcp_model.specs.Plan.{variable_names}
use Rattle.fault_journal.specs.declared.row.Kind.{Kind}
use Rattle.fault_journal.specs.declared.row.Kind.TheVariants as kind
use Rattle.fault_journal.specs.declared.row.Row.{Row}
use Rattle.fault_journal.specs.declared.row.WrittenRow.{WrittenRow}
use Rattle.fault_journal.specs.Columns.{columns_of, kind_of, with_column, written_row}
use Rattle.fault_journal.specs.Journal.{Fields, follows, repeats, row_of, six_fields}
use Rattle.fault_journal.specs.Limits.{is_within_limits}
use Rattle.fault_journal.specs.Number.{integer_of}
use Rattle.journal_gen.specs.Written.{column_text, kind_word, name_at}

-- the columns of a row after its kind, and all its fields
abbrev pub columns_text : PlanParts → Row → List (List ℕ)
columns_text plan row = map (column_text plan row) (columns_of row.kind)

abbrev pub fields_of : PlanParts → Row → Fields
fields_of plan row = decimal row.frame ∷ kind_word row.kind ∷ columns_text plan row

-- the numbers of a row as they are written
abbrev pub written : Row → WrittenRow
written row = record {
  frame = pos row.frame;
  kind = row.kind;
  replica = pos row.replica;
  receiver = pos row.receiver;
  item = row.item;
  value = row.value;
}

kind_read : (kind : Kind) → kind_of (kind_word kind) ≡ Some kind
unfolding kind_of
kind_read kind.Sensor = refl
kind_read kind.Down = refl
kind_read kind.Cell = refl
kind_read kind.Slot = refl
kind_read kind.Act = refl
kind_read kind.Lie = refl
kind_read kind.LieSlot = refl
kind_read kind.Drop = refl
kind_read kind.Skew = refl
kind_read kind.Rate = refl
kind_read kind.Delay = refl
kind_read kind.End = refl

six_read : (frame word : List ℕ) (text_of : _ → List ℕ) (kind : Kind)
    → six_fields (frame ∷ word ∷ map text_of (columns_of kind)) ≡ Some (record { frame = frame; kind = word; columns = map text_of (columns_of kind) })
six_read frame word text_of kind.Sensor = refl
six_read frame word text_of kind.Down = refl
six_read frame word text_of kind.Cell = refl
six_read frame word text_of kind.Slot = refl
six_read frame word text_of kind.Act = refl
six_read frame word text_of kind.Lie = refl
six_read frame word text_of kind.LieSlot = refl
six_read frame word text_of kind.Drop = refl
six_read frame word text_of kind.Skew = refl
six_read frame word text_of kind.Rate = refl
six_read frame word text_of kind.Delay = refl
six_read frame word text_of kind.End = refl

-- the columns of a row are read as its numbers, whatever the row's number
abbrev pub IsReadBack : PlanParts → Row → Type 0
IsReadBack plan row =
    (number : ℕ) → written_row plan number (decimal row.frame) row.kind (columns_text plan row) ≡ Ok (written row)

-- a row that is within the limits, in order and new is read back
pub row_read : (plan : PlanParts) (number : ℕ) (before : List Row) (row : Row) → IsReadBack plan row
    → follows before (written row) ≡ true → is_within_limits plan (written row) ≡ true → list_any (repeats row) before ≡ false
    → row_of plan number before (fields_of plan row) ≡ Ok row
unfolding row_of
row_read plan number before row reads order limits new =
    rw (six_read (decimal row.frame) (kind_word row.kind) (column_text plan row) row.kind, kind_read row.kind, reads number, order, limits, new) refl

-- a number is read
abbrev pub ReadsNumber : ℕ → Type 0
ReadsNumber n = integer_of (decimal n) ≡ Some (pos n)

pub sensor_read : (plan : PlanParts) (frame item : ℕ) (value : ℤ) → ReadsNumber frame
    → place_in (variable_names plan.sensors) (name_at (variable_names plan.sensors) item) ≡ Some item → integer_of (signed_decimal value) ≡ Some value
    → IsReadBack plan (record { frame = frame; kind = kind.Sensor; replica = 0; receiver = 0; item = item; value = value })
unfolding written_row with_column
sensor_read plan frame item value frame_is item_is value_is number = rw (frame_is, item_is, value_is) refl

pub down_read : (plan : PlanParts) (frame replica : ℕ) → ReadsNumber frame → ReadsNumber replica
    → IsReadBack plan (record { frame = frame; kind = kind.Down; replica = replica; receiver = 0; item = 0; value = pos 0 })
unfolding written_row with_column
down_read plan frame replica frame_is replica_is number = rw (frame_is, replica_is) refl

pub cell_read : (plan : PlanParts) (frame replica item : ℕ) (value : ℤ) → ReadsNumber frame → ReadsNumber replica
    → place_in (variable_names plan.cells) (name_at (variable_names plan.cells) item) ≡ Some item → integer_of (signed_decimal value) ≡ Some value
    → IsReadBack plan (record { frame = frame; kind = kind.Cell; replica = replica; receiver = 0; item = item; value = value })
unfolding written_row with_column
cell_read plan frame replica item value frame_is replica_is item_is value_is number = rw (frame_is, replica_is, item_is, value_is) refl

pub slot_read : (plan : PlanParts) (frame replica slot : ℕ) → ReadsNumber frame → ReadsNumber replica → ReadsNumber slot
    → IsReadBack plan (record { frame = frame; kind = kind.Slot; replica = replica; receiver = 0; item = 0; value = pos slot })
unfolding written_row with_column
slot_read plan frame replica slot frame_is replica_is slot_is number = rw (frame_is, replica_is, slot_is) refl

pub drop_read : (plan : PlanParts) (frame replica receiver : ℕ) → ReadsNumber frame → ReadsNumber replica → ReadsNumber receiver
    → IsReadBack plan (record { frame = frame; kind = kind.Drop; replica = replica; receiver = receiver; item = 0; value = pos 0 })
unfolding written_row with_column
drop_read plan frame replica receiver frame_is replica_is receiver_is number = rw (frame_is, replica_is, receiver_is) refl

pub end_read : (plan : PlanParts) (frame : ℕ) → ReadsNumber frame
    → IsReadBack plan (record { frame = frame; kind = kind.End; replica = 0; receiver = 0; item = 0; value = pos 0 })
unfolding written_row with_column
end_read plan frame frame_is number = rw frame_is refl
