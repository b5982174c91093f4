-- Words as sets of cells: what an expression reads, and what feeds each cell over a task and over the tasks of a slot.
-- This project's own.
use Rattle.std.specs.Prelude.{ℕ, ◌^◌, zero, suc, Bool, nat_lt, length, List, [], ◌∷◌, ◌++◌, map, slice_index_or, slice_set, if◌then◌else◌}
use Rattle.std.specs.Int.Bits.{bit_or}
use Rattle.rcp_base.specs.Bits.{has_bit}
use Rattle.rcp_base.specs.Tables.{table}
use Rattle.rcp_model.specs.declared.expr.Expr.{Expr, fold-Expr}
use Rattle.rcp_model.specs.declared.expr.Expr.TheOpen.{Expr-F}
use Rattle.rcp_model.specs.declared.task.LetRow.{LetRow}
use Rattle.rcp_model.specs.declared.task.SetRow.{SetRow}
use Rattle.rcp_model.specs.declared.task.Task.{Task}
use Rattle.rcp_model.specs.declared.plan.SlotRow.{SlotRow}
use Rattle.task_graph.specs.declared.masks.SetMask.{SetMask}

-- the word of one cell, and of none where a word has no room for it
abbrev pub bit_of : ℕ → ℕ
bit_of cell = if nat_lt cell 64 then 2 ^ cell else 0

-- the cells that one level reads, over those of the lets
abbrev pub mask_step : Expr-F (List ℕ → ℕ) → List ℕ → ℕ
mask_step (Expr-F.Number n) lets = 0
mask_step (Expr-F.Sensor i) lets = 0
mask_step (Expr-F.Cell i) lets = bit_of i
mask_step (Expr-F.Let i) lets = slice_index_or lets i 0
mask_step (Expr-F.Neg x) lets = x lets
mask_step (Expr-F.Not x) lets = x lets
mask_step (Expr-F.Abs x) lets = x lets
mask_step (Expr-F.Two op a b) lets = bit_or (a lets) (b lets)
mask_step (Expr-F.Clamp x low high) lets = bit_or (bit_or (x lets) (low lets)) (high lets)
mask_step (Expr-F.If test a b) lets = bit_or (bit_or (test lets) (a lets)) (b lets)

-- the cells that an expression reads, itself or in a let that it reads
abbrev pub mask_of : Expr → List ℕ → ℕ
mask_of = fold-Expr (List ℕ → ℕ) mask_step

-- the cells that let rows read, each by those before it
abbrev pub let_masks_after : List ℕ → List LetRow → List ℕ
let_masks_after known [] = known
let_masks_after known (row ∷ rows) = let_masks_after (known ++ mask_of row.value known ∷ []) rows

-- the cells that a task's lets read
abbrev pub let_masks : Task → List ℕ
let_masks task = let_masks_after [] task.lets

-- what a set row does, over the masks of the lets
abbrev pub set_mask : List ℕ → SetRow → SetMask
set_mask lets row = record { cell = row.cell; mask = mask_of row.value lets }

-- what each set row of a task does
abbrev pub task_masks : Task → List SetMask
task_masks task = map (set_mask (let_masks task)) task.sets

-- the mask, where it counts
abbrev pub mask_if : Bool → ℕ → ℕ
mask_if counts mask = if counts then mask else 0

-- the union of those of the first n words that the mask has
abbrev pub union_below : List ℕ → ℕ → ℕ → ℕ
union_below needs mask zero = 0
union_below needs mask (suc n) = bit_or (union_below needs mask n) (mask_if (has_bit mask n) (slice_index_or needs n 0))

-- the cells that feed one of the mask's cells, by what feeds each cell
abbrev pub union_of : List ℕ → ℕ → ℕ
union_of needs mask = union_below needs mask (length needs)

-- what feeds each cell after set rows, all by what fed it before. The first row that sets a cell stands
abbrev pub needs_after_sets : List ℕ → List SetMask → List ℕ
needs_after_sets needs [] = needs
needs_after_sets needs (row ∷ rows) = slice_set (needs_after_sets needs rows) row.cell (union_of needs row.mask)

-- what feeds each cell after the task with that number. One that isn't there changes nothing
abbrev pub needs_after_task : List (List SetMask) → ℕ → List ℕ → List ℕ
needs_after_task masks number needs = needs_after_sets needs (slice_index_or masks number [])

-- what feeds each cell after the tasks with these numbers, one after the other
abbrev pub needs_after : List (List SetMask) → List ℕ → List ℕ → List ℕ
needs_after masks [] needs = needs
needs_after masks (number ∷ numbers) needs = needs_after masks numbers (needs_after_task masks number needs)

-- what feeds each cell over a slot's tasks: in front of them each cell by itself
abbrev pub slot_words : List (List SetMask) → ℕ → List ℕ → List ℕ
slot_words masks cells numbers = needs_after masks numbers (table cells bit_of)

-- and over those of each slot
abbrev pub plan_words : List (List SetMask) → ℕ → List SlotRow → List ℕ
plan_words masks cells [] = []
plan_words masks cells (slot ∷ slots) = slot_words masks cells slot.tasks ++ plan_words masks cells slots
