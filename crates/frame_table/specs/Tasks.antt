-- What compiled tasks leave in the cells. This project's own.
use Rattle.std.specs.Prelude.{ℕ, max, ℤ, List, [], ◌∷◌, length, slice_set, slice_index_or}
use Rattle.task_code.specs.declared.instruction.Instruction.{Instruction}
use Rattle.task_code.specs.Machine.{results}

-- the code of each task, and the cells that its results go to
pub record Programs : Type 0 where
  pub codes : List (List Instruction)
  pub targets : List (List ℕ)

-- cells with values in their places; where a place is named twice, the first value stands
abbrev pub written_back : List ℕ → List ℤ → List ℤ → List ℤ
written_back [] values cells = cells
written_back (target ∷ targets) [] cells = cells
written_back (target ∷ targets) (value ∷ values) cells = slice_set (written_back targets values cells) target value

-- the cells after a code whose results go to these
abbrev pub cells_after_code : List Instruction → List ℕ → List ℤ → List ℤ → List ℤ
cells_after_code code targets sensors cells = written_back targets (results code sensors cells) cells

-- the cells after the task with this number; one that isn't there changes nothing
abbrev pub cells_after_number : Programs → ℕ → List ℤ → List ℤ → List ℤ
cells_after_number programs number sensors cells =
    cells_after_code (slice_index_or programs.codes number []) (slice_index_or programs.targets number []) sensors cells

-- the cells after tasks with these numbers that run one after the other
abbrev pub cells_after_numbers : Programs → List ℕ → List ℤ → List ℤ → List ℤ
cells_after_numbers programs [] sensors cells = cells
cells_after_numbers programs (number ∷ numbers) sensors cells =
    cells_after_numbers programs numbers sensors (cells_after_number programs number sensors cells)

-- the length of the longest list
abbrev pub greatest_length : List (List ℕ) → ℕ
greatest_length [] = 0
greatest_length (list ∷ lists) = max (length list) (greatest_length lists)
