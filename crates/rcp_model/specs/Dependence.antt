-- Which cell feeds which in a slot: whose value before it can enter whose value after it, by the names in the text.
-- After NASA TM-102716; the rule is this project's own.
use Rattle.std.specs.Prelude.{ℕ, ◌<◌, ◌≡◌, ◌==◌, Bool, false, IsTrue, ◌&&◌, ◌||◌, List, [], ◌∷◌, ◌++◌, length, slice_index_or, Option, Some, None}
use Rattle.rcp_base.specs.Search.{any_below}
use Rattle.rcp_model.specs.declared.expr.Expr.{Expr, fold-Expr}
use Rattle.rcp_model.specs.declared.expr.Expr.TheOpen.{Expr-F}
use Rattle.rcp_model.specs.declared.task.LetRow.{LetRow}
use Rattle.rcp_model.specs.declared.task.Task.{Task}
use Rattle.rcp_model.specs.declared.plan.PlanParts.{PlanParts}
use Rattle.rcp_model.specs.Task.{written}
use Rattle.rcp_model.specs.Slot.{tasks_of}

-- one level reads the cell, by which of the lets read it
abbrev pub reads_step : ℕ → Expr-F (List Bool → Bool) → List Bool → Bool
reads_step cell (Expr-F.Number n) lets = false
reads_step cell (Expr-F.Sensor i) lets = false
reads_step cell (Expr-F.Cell i) lets = i == cell
reads_step cell (Expr-F.Let i) lets = slice_index_or lets i false
reads_step cell (Expr-F.Neg x) lets = x lets
reads_step cell (Expr-F.Not x) lets = x lets
reads_step cell (Expr-F.Abs x) lets = x lets
reads_step cell (Expr-F.Two op a b) lets = a lets || b lets
reads_step cell (Expr-F.Clamp x low high) lets = x lets || low lets || high lets
reads_step cell (Expr-F.If test a b) lets = test lets || a lets || b lets

-- an expression reads the cell, itself or in a let that it reads
abbrev pub reads : ℕ → Expr → List Bool → Bool
reads cell = fold-Expr (List Bool → Bool) (reads_step cell)

-- which let rows read the cell, each by those before it
abbrev pub lets_reading_after : ℕ → List Bool → List LetRow → List Bool
lets_reading_after cell known [] = known
lets_reading_after cell known (row ∷ rows) = lets_reading_after cell (known ++ reads cell row.value known ∷ []) rows

-- which lets of a task read the cell
abbrev pub lets_reading : ℕ → Task → List Bool
lets_reading cell task = lets_reading_after cell [] task.lets

-- one cell leads to another over a task that gives the other this expression, or none
abbrev pub leads_by : Task → ℕ → ℕ → Option Expr → Bool
leads_by task from to None = from == to
leads_by task from to (Some e) = reads from e (lets_reading from task)

-- one cell leads to another over a task: the other is set by what reads the one, or it is the same cell and is not set
unfoldable pub leads : Task → ℕ → ℕ → Bool
leads task from to = leads_by task from to (written task to)

-- one cell leads to another over tasks that run one after the other, through so many cells
abbrev pub feeds_through : ℕ → List Task → ℕ → ℕ → Bool
feeds_through cells [] from to = from == to
feeds_through cells (task ∷ tasks) from to = any_below cells (λ x. leads task from x && feeds_through cells tasks x to)

-- the same as a statement: there is a way, of one cell in front of each task and one after the last
abbrev pub FeedsThrough : ℕ → List Task → ℕ → ℕ → Type 0
FeedsThrough cells [] from to = from ≡ to
FeedsThrough cells (task ∷ tasks) from to =
    (x : ℕ) × (x < cells) × IsTrue (leads task from x) × FeedsThrough cells tasks x to

-- one cell feeds another in a slot
unfoldable pub feeds : PlanParts → ℕ → ℕ → ℕ → Bool
feeds plan slot from to = feeds_through (length plan.cells) (tasks_of plan slot) from to
