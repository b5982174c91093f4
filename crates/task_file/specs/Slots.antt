-- The slots of a task file: each entry names a task or a cell, none stands twice, and no two tasks of a slot set one cell.
-- This project's own.
use Rattle.std.specs.Prelude.{ℕ, zero, suc, ◌+◌, ◌||◌, List, [], ◌∷◌, ◌++◌, Option, Some, None, Result, Ok, if◌then◌else◌}
use Rattle.std.specs.List.{list_any}
use Rattle.rcp_base.specs.Answers.{◌>>=◌, found_or, each_from, first_fault, has_number, place_in}
use Rattle.rcp_model.specs.declared.task.SetRow.{SetRow}
use Rattle.rcp_model.specs.declared.task.Task.{Task}
use Rattle.rcp_model.specs.declared.plan.SlotRow.{SlotRow}
use Rattle.task_file.specs.declared.fault.FileFault.{FileFault}
use Rattle.task_file.specs.declared.fault.FileFault.TheVariants.{UnknownInSlot, SlotClash}
use Rattle.task_file.specs.declared.path.Key.{Key}
use Rattle.task_file.specs.declared.path.Key.TheVariants as key
use Rattle.task_file.specs.declared.path.Section.TheVariants as section
use Rattle.task_file.specs.Places.{of_entry}
use Rattle.task_file.specs.Sections.{RawSlot}

-- the number of the name of an entry
abbrev pub entry_number : List (List ℕ) → ℕ → Key → ℕ → List ℕ → Result ℕ FileFault
entry_number names i at j entry = found_or (UnknownInSlot (of_entry section.Slot i at j)) (place_in names entry)

-- a slot by the numbers of its tasks and cells
abbrev pub slot_row_of : List (List ℕ) → List (List ℕ) → ℕ → RawSlot → Result SlotRow FileFault
slot_row_of tasks cells i raw = do
  runs ← each_from (entry_number tasks i key.Tasks) 0 raw.tasks
  votes ← each_from (entry_number cells i key.Votes) 0 raw.votes
  Ok (record { tasks = runs; votes = votes })

-- the slots by numbers, where each entry is a name
unfoldable pub slot_rows_of : List (List ℕ) → List (List ℕ) → List RawSlot → Result (List SlotRow) FileFault
slot_rows_of tasks cells raws = each_from (slot_row_of tasks cells) 0 raws

-- the cells that rows set
abbrev pub cells_set : List SetRow → List ℕ
cells_set [] = []
cells_set (row ∷ rows) = row.cell ∷ cells_set rows

-- the cells that the task of a number sets
abbrev pub cells_of_number : List Task → ℕ → List ℕ
cells_of_number [] number = []
cells_of_number (task ∷ tasks) zero = cells_set task.sets
cells_of_number (task ∷ tasks) (suc number) = cells_of_number tasks number

-- a clash at an entry of a slot
abbrev pub slot_clash : ℕ → Key → ℕ → FileFault
slot_clash i at j = SlotClash (of_entry section.Slot i at j)

-- the first of a slot's tasks, from entry j on, that stands before or sets what one before sets
abbrev pub task_clash_from : List Task → ℕ → List ℕ → List ℕ → ℕ → List ℕ → Option FileFault
task_clash_from tasks i before set j [] = None
task_clash_from tasks i before set j (number ∷ numbers) =
    let cells = cells_of_number tasks number in
    if has_number before number || list_any (has_number set) cells then Some (slot_clash i key.Tasks j)
    else task_clash_from tasks i (before ++ number ∷ []) (set ++ cells) (j + 1) numbers

-- the first of a slot's votes, from entry j on, that stands before
abbrev pub vote_clash_from : ℕ → List ℕ → ℕ → List ℕ → Option FileFault
vote_clash_from i before j [] = None
vote_clash_from i before j (number ∷ numbers) =
    if has_number before number then Some (slot_clash i key.Votes j)
    else vote_clash_from i (before ++ number ∷ []) (j + 1) numbers

-- the first clash of the slots from number i on: in each its tasks, and then its votes
abbrev pub clash_from : List Task → ℕ → List SlotRow → Option FileFault
clash_from tasks i [] = None
clash_from tasks i (row ∷ rows) =
    first_fault (task_clash_from tasks i [] [] 0 row.tasks)
    (first_fault (vote_clash_from i [] 0 row.votes) (clash_from tasks (i + 1) rows))
