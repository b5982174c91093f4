-- How a row of a journal is written. This project's own.
use Rattle.std.specs.Prelude.{ℕ, List, [], ◌∷◌, ◌++◌, map, flat_map, codes, slice_index_or}
use Rattle.std.specs.Fmt.{decimal, signed_decimal}
use Rattle.rcp_model.specs.declared.plan.PlanParts.{PlanParts}
use Rattle.rcp_model.specs.Plan.{variable_names, actuator_names}
use Rattle.fault_journal.specs.declared.row.Kind.{Kind}
use Rattle.fault_journal.specs.declared.row.Kind.TheVariants as kind
use Rattle.fault_journal.specs.declared.row.Column.{Column}
use Rattle.fault_journal.specs.declared.row.Column.TheVariants as column
use Rattle.fault_journal.specs.declared.row.Row.{Row}
use Rattle.fault_journal.specs.Columns.{columns_of}

-- the word of a kind
abbrev pub kind_word : Kind → List ℕ
kind_word kind.Sensor = codes "sensor"
kind_word kind.Down = codes "down"
kind_word kind.Cell = codes "cell"
kind_word kind.Slot = codes "slot"
kind_word kind.Act = codes "act"
kind_word kind.Lie = codes "lie"
kind_word kind.LieSlot = codes "lieslot"
kind_word kind.Drop = codes "drop"
kind_word kind.Skew = codes "skew"
kind_word kind.Rate = codes "rate"
kind_word kind.Delay = codes "delay"
kind_word kind.End = codes "end"

-- the name with a number, and nothing where there is none
abbrev pub name_at : List (List ℕ) → ℕ → List ℕ
name_at names number = slice_index_or names number []

-- what a row has in a column
abbrev pub column_text : PlanParts → Row → Column → List ℕ
column_text plan row column.Replica = decimal row.replica
column_text plan row column.Receiver = decimal row.receiver
column_text plan row column.SensorName = name_at (variable_names plan.sensors) row.item
column_text plan row column.CellName = name_at (variable_names plan.cells) row.item
column_text plan row column.ActuatorName = name_at (actuator_names plan.actuators) row.item
column_text plan row column.Value = signed_decimal row.value
column_text plan row column.Nothing = []

-- a frame, a word and columns, with a comma between each two and a line feed at the end
abbrev pub line_text : ℕ → List ℕ → List (List ℕ) → List ℕ
line_text frame word columns =
    decimal frame ++ codes "," ++ word ++ flat_map (λ column. 44 ∷ column) columns ++ codes "\n"

-- a row of a plan's journal
unfoldable pub row_text : PlanParts → Row → List ℕ
row_text plan row =
    line_text row.frame (kind_word row.kind) (map (column_text plan row) (columns_of row.kind))
