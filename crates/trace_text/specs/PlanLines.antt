-- The lines of a plan: its tasks, its votes, and walks over its cells. This project's own.
use Rattle.std.specs.Prelude.{ℕ, ◌==◌, Bool, List, [], ◌∷◌, ◌++◌, length, codes, flat_map, slice_get, Option, Some, None, if◌then◌else◌}
use Rattle.std.specs.Fmt.{decimal}
use Rattle.rcp_model.specs.declared.node.Node.{Node}
use Rattle.rcp_model.specs.declared.plan.Variable.{Variable}
use Rattle.rcp_model.specs.declared.task.Task.{Task}
use Rattle.task_lang.specs.Printing.{task_text}

-- the name of a cell, and nothing where there is no such cell
abbrev pub name_or_empty : Option Variable → List ℕ
name_or_empty (Some cell) = cell.name
name_or_empty None = []

-- the name of the cell with this number
abbrev pub cell_name : List Variable → ℕ → List ℕ
cell_name cells number = name_or_empty (slice_get cells number)

-- each cell's name after a space
abbrev pub cells_text : List Variable → List ℕ → List ℕ
cells_text cells numbers = flat_map (λ number. 32 ∷ cell_name cells number) numbers

-- each node after a space, as `S:CELL`
abbrev pub node_text : List Variable → Node → List ℕ
node_text cells node = codes " " ++ decimal node.slot ++ codes ":" ++ cell_name cells node.cell

-- the nodes of a walk or of a cycle
abbrev pub nodes_text : List Variable → List Node → List ℕ
nodes_text cells nodes = flat_map (node_text cells) nodes

-- a dash, where nothing is listed
abbrev pub dash_if : Bool → List ℕ
dash_if none = if none then codes " -" else []

-- the same of a list
abbrev pub dash_if_none : {X : Type 0} → List X → List ℕ
dash_if_none xs = dash_if (length xs == 0)

-- `task NAME BODY`, by the names of sensors and cells
unfoldable pub task_line : List (List ℕ) → List (List ℕ) → Task → List ℕ
task_line sensors cells task =
    codes "task " ++ task.name ++ codes " " ++ task_text sensors cells task ++ codes "\n"

-- `slot S votes NAME NAME ..`, or `slot S votes -`
unfoldable pub slot_line : List Variable → ℕ → List ℕ → List ℕ
slot_line cells slot voted =
    codes "slot " ++ decimal slot ++ codes " votes" ++ cells_text cells voted ++ dash_if_none voted
    ++ codes "\n"

-- `walk S:CELL S:CELL ..`, or `walk -`
unfoldable pub walk_line : List Variable → List Node → List ℕ
walk_line cells nodes = codes "walk" ++ nodes_text cells nodes ++ dash_if_none nodes ++ codes "\n"

-- `pattern refused: cycle S:CELL S:CELL ..`
unfoldable pub pattern_refused_line : List Variable → List Node → List ℕ
pattern_refused_line cells nodes =
    codes "pattern refused: cycle" ++ nodes_text cells nodes ++ codes "\n"
