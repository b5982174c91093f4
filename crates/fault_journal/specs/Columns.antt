-- What stands in the columns of a row. This project's own.
use Rattle.std.specs.Prelude.{ℕ, ◌+◌, ℤ, pos, List, [], ◌∷◌, length, ◌==◌, codes, Option, Some, None, option_map, Ok, if◌then◌else◌, Result}
use Rattle.std.specs.Str.{bytes_eq}
use Rattle.rcp_base.specs.Answers.{◌>>=◌, found_or, place_in}
use Rattle.fault_journal.specs.declared.fault.JournalFault.{JournalFault}
use Rattle.rcp_model.specs.declared.plan.PlanParts.{PlanParts}
use Rattle.rcp_model.specs.Plan.{variable_names, actuator_names}
use Rattle.fault_journal.specs.declared.fault.JournalFault.TheVariants as fault
use Rattle.fault_journal.specs.declared.row.Kind.{Kind}
use Rattle.fault_journal.specs.declared.row.Kind.TheVariants as kind
use Rattle.fault_journal.specs.declared.row.Column.{Column}
use Rattle.fault_journal.specs.declared.row.Column.TheVariants as column
use Rattle.fault_journal.specs.declared.row.WrittenRow.{WrittenRow}
use Rattle.fault_journal.specs.Number.{integer_of}

-- the kind that a text names
unfoldable pub kind_of : List ℕ → Option Kind
kind_of text =
    if bytes_eq text (codes "sensor") then Some kind.Sensor
    else if bytes_eq text (codes "down") then Some kind.Down
    else if bytes_eq text (codes "cell") then Some kind.Cell
    else if bytes_eq text (codes "slot") then Some kind.Slot
    else if bytes_eq text (codes "act") then Some kind.Act
    else if bytes_eq text (codes "lie") then Some kind.Lie
    else if bytes_eq text (codes "lieslot") then Some kind.LieSlot
    else if bytes_eq text (codes "drop") then Some kind.Drop
    else if bytes_eq text (codes "skew") then Some kind.Skew
    else if bytes_eq text (codes "rate") then Some kind.Rate
    else if bytes_eq text (codes "delay") then Some kind.Delay
    else if bytes_eq text (codes "end") then Some kind.End
    else None

-- what the columns a, b, c and d of a kind hold
abbrev pub columns_of : Kind → List Column
columns_of kind.Sensor = column.SensorName ∷ column.Value ∷ column.Nothing ∷ column.Nothing ∷ []
columns_of kind.Down = column.Replica ∷ column.Nothing ∷ column.Nothing ∷ column.Nothing ∷ []
columns_of kind.Cell = column.Replica ∷ column.CellName ∷ column.Value ∷ column.Nothing ∷ []
columns_of kind.Slot = column.Replica ∷ column.Value ∷ column.Nothing ∷ column.Nothing ∷ []
columns_of kind.Act = column.Replica ∷ column.ActuatorName ∷ column.Value ∷ column.Nothing ∷ []
columns_of kind.Lie = column.Replica ∷ column.Receiver ∷ column.CellName ∷ column.Value ∷ []
columns_of kind.LieSlot = column.Replica ∷ column.Receiver ∷ column.Value ∷ column.Nothing ∷ []
columns_of kind.Drop = column.Replica ∷ column.Receiver ∷ column.Nothing ∷ column.Nothing ∷ []
columns_of kind.Skew = column.Replica ∷ column.Value ∷ column.Nothing ∷ column.Nothing ∷ []
columns_of kind.Rate = column.Replica ∷ column.Value ∷ column.Nothing ∷ column.Nothing ∷ []
columns_of kind.Delay = column.Replica ∷ column.Receiver ∷ column.Value ∷ column.Nothing ∷ []
columns_of kind.End = column.Nothing ∷ column.Nothing ∷ column.Nothing ∷ column.Nothing ∷ []

-- the row with what a column gives it, if the text is what the column holds
unfoldable pub with_column : PlanParts → WrittenRow → Column → List ℕ → Option WrittenRow
with_column plan row column.Replica text = option_map (λ number. record row { replica = number }) (integer_of text)
with_column plan row column.Receiver text = option_map (λ number. record row { receiver = number }) (integer_of text)
with_column plan row column.SensorName text = option_map (λ place. record row { item = place }) (place_in (variable_names plan.sensors) text)
with_column plan row column.CellName text = option_map (λ place. record row { item = place }) (place_in (variable_names plan.cells) text)
with_column plan row column.ActuatorName text = option_map (λ place. record row { item = place }) (place_in (actuator_names plan.actuators) text)
with_column plan row column.Value text = option_map (λ number. record row { value = number }) (integer_of text)
with_column plan row column.Nothing text = if length text == 0 then Some row else None

-- the same for columns from this number on, each with its text
abbrev pub with_columns : PlanParts → ℕ → ℕ → WrittenRow → List Column → List (List ℕ) → Result WrittenRow JournalFault
with_columns plan number at row (column ∷ columns) (text ∷ texts) = do
  next ← found_or (fault.Column number at) (with_column plan row column text)
  with_columns plan number (at + 1) next columns texts
with_columns plan number at row _ _ = Ok row

-- a row of a frame before its columns are read
abbrev pub bare_row : ℤ → Kind → WrittenRow
bare_row frame kind = record { frame = frame; kind = kind; replica = pos 0; receiver = pos 0; item = 0; value = pos 0 }

-- the row of this number, whose first column and whose kind and further columns are these
unfoldable pub written_row : PlanParts → ℕ → List ℕ → Kind → List (List ℕ) → Result WrittenRow JournalFault
written_row plan number frame kind texts = do
  frame ← found_or (fault.Column number 1) (integer_of frame)
  with_columns plan number 3 (bare_row frame kind) (columns_of kind) texts
