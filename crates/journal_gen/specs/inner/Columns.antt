-- What code has in hand when it writes a row. This project's own.
use Rattle.std.specs.Prelude.{ℕ, ◌<◌, ⊤, List, [], ◌∷◌, length, map, flat_map}
use Rattle.std.specs.Fmt.{decimal, signed_decimal}
use Rattle.rcp_model.specs.declared.plan.PlanParts.{PlanParts}
use Rattle.journal_gen.specs.declared.fault.Fault.{Fault}
use Rattle.journal_gen.specs.declared.fault.Fault.TheVariants as fault
use Rattle.journal_gen.specs.declared.line.Column.{Column}
use Rattle.journal_gen.specs.declared.line.Column.TheVariants as column

-- the bytes of a column
abbrev pub column_bytes : Column → List ℕ
column_bytes (column.Text bytes) = bytes.now
column_bytes (column.Count count) = decimal count
column_bytes (column.Value value) = signed_decimal value
column_bytes column.Nothing = []

-- the bytes of columns, each after a comma
abbrev pub columns_bytes : List Column → List ℕ
columns_bytes columns = flat_map (λ column. 44 ∷ column) (map column_bytes columns)

-- the cell of a fault is one of the plan
abbrev pub IsOnCellOf : PlanParts → Fault → Type 0
IsOnCellOf plan (fault.Cell cell value) = cell < length plan.cells
IsOnCellOf plan _ = ⊤
