-- A task's code, with its results put back, leaves in the cells what the task leaves.
use Rattle.std.proofs.Common.{◌≡◌, ℕ, ◌<◌, ◌==◌, ℤ, pos, List, [], ◌∷◌, map, length, get_or, set, Bool, true, false, if◌then◌else◌, Some, refl, ap, sym, ◌∙◌, subst, arith, length-set, get_or-set_same, get_or-set_other, ext_get_or, eqb-true, false-eqb}
use Rattle.rcp_base.specs.Tables.{table}
use Rattle.rcp_base.proofs.TableLaws.{length-table, get_or-table}
use Rattle.rcp_model.specs.declared.task.SetRow.{SetRow}
use Rattle.rcp_model.specs.declared.task.Task.{Task}
use Rattle.rcp_model.specs.Expr.{value_of}
use Rattle.rcp_model.specs.Task.{let_values, expression_for, written, cell_after, cells_after_task}
use Rattle.task_code.specs.Compiler.{task_code}
use Rattle.task_code.proofs.SizeLaws.{task_code_computes}
use Rattle.frame_table.specs.Tasks.{written_back, cells_after_code}
use Rattle.frame_table.specs.Plan.{targets_of}

pub length-written_back : (targets : List ℕ) (values cells : List ℤ) → length (written_back targets values cells) ≡ length cells
length-written_back [] values cells = refl
length-written_back (target ∷ targets) [] cells = refl
length-written_back (target ∷ targets) (value ∷ values) cells =
    length-set (written_back targets values cells) target value ∙ length-written_back targets values cells

-- one more row: its cell has its value, and any other what it had
one_row :
    (task : Task) (row : SetRow) (rows : List SetRow) (sensors cells found : List ℤ) (c : ℕ) → c < length found →
    get_or found c (pos 0) ≡ cell_after task sensors cells c (expression_for rows c) →
    (same : Bool) → (row.cell == c) ≡ same →
    get_or (set found row.cell (value_of row.value (let_values task sensors cells) sensors cells)) c (pos 0)
    ≡ cell_after task sensors cells c (if row.cell == c then Some row.value else expression_for rows c)
one_row task row rows sensors cells found c below was true is =
    let here : row.cell ≡ c = eqb-true row.cell c is in
    rw is (subst (λ k. get_or (set found row.cell (value_of row.value (let_values task sensors cells) sensors cells)) k (pos 0) ≡ value_of row.value (let_values task sensors cells) sensors cells) here
    (get_or-set_same found row.cell _ (pos 0) (omega arith)))
one_row task row rows sensors cells found c below was false is =
    rw is (get_or-set_other found row.cell c _ (pos 0) (λ e. false-eqb row.cell c (sym is) (sym e)) ∙ was)

at_place :
    (task : Task) (rows : List SetRow) (sensors cells : List ℤ) (c : ℕ) → c < length cells →
    get_or (written_back (map (λ row. row.cell) rows) (map (λ row. value_of row.value (let_values task sensors cells) sensors cells) rows) cells) c (pos 0)
    ≡ cell_after task sensors cells c (expression_for rows c)
at_place task [] sensors cells c below = refl
at_place task (row ∷ rows) sensors cells c below =
    let found : List ℤ = written_back (map (λ row. row.cell) rows) (map (λ row. value_of row.value (let_values task sensors cells) sensors cells) rows) cells in
    one_row task row rows sensors cells found c (omega (arith, length-written_back (map (λ row. row.cell) rows) (map (λ row. value_of row.value (let_values task sensors cells) sensors cells) rows) cells))
    (at_place task rows sensors cells c below) (row.cell == c) refl

-- the code of a task leaves what the task leaves
pub code_leaves : (task : Task) (sensors cells : List ℤ) → cells_after_code (task_code task) (targets_of task) sensors cells ≡ cells_after_task task sensors cells
unfolding cells_after_task
code_leaves task sensors cells =
    let values : List ℤ = map (λ row. value_of row.value (let_values task sensors cells) sensors cells) task.sets in
    let left : List ℤ = written_back (targets_of task) values cells in
    let long : length left ≡ length cells = length-written_back (targets_of task) values cells in
    ap (λ v. written_back (targets_of task) v cells) ((task_code_computes task).values sensors cells)
    ∙ ext_get_or (pos 0) left (table (length cells) (λ c. cell_after task sensors cells c (written task c)))
    (long ∙ sym (length-table (length cells) (λ c. cell_after task sensors cells c (written task c))))
    (λ c below.
    let within : c < length cells = omega (arith, long) in
    at_place task task.sets sensors cells c within ∙ sym (get_or-table (length cells) (λ c. cell_after task sensors cells c (written task c)) c (pos 0) within))
