-- The cells that tasks set, and the first clash of slots.
use Rattle.std.specs.List.{list_any}
use Rattle.std.proofs.Common.{◌≡◌, ◌⊎◌, inl, inr, ℕ, zero, suc, ◌+◌, ◌<◌, ◌≤◌, List, [], ◌∷◌, ◌++◌, length, get_or, take, drop, Bool, true, false, ◌||◌, if◌then◌else◌, Option, Some, None, Ok, Err, refl, ap, sym, ◌∙◌, arith}
use Rattle.std.proofs.lemmas.List.{drop_more, take_more}
use Rattle.rcp_base.specs.Answers.{has_number, unless_fault, first_fault, IsFaultOr}
use Rattle.rcp_base.proofs.ReaderLaws.{fault_along}
use Rattle.rcp_model.specs.declared.plan.SlotRow.{SlotRow}
use Rattle.rcp_model.specs.declared.task.SetRow.{SetRow}
use Rattle.rcp_model.specs.declared.task.Task.{Task}
use Rattle.task_file.specs.Fault.{is_file_memory}
use Rattle.task_file.specs.declared.fault.FileFault.{FileFault}
use Rattle.task_file.specs.Slots.{slot_clash, cells_set, cells_of_number, task_clash_from, vote_clash_from, clash_from}
use Rattle.task_file.specs.declared.path.Key.TheVariants as key

pub any_set : (set : List ℕ) (rows : List SetRow) → list_any (λ row. has_number set row.cell) rows ≡ list_any (has_number set) (cells_set rows)
any_set set [] = refl
any_set set (row ∷ rows) = ap (λ b. has_number set row.cell || b) (any_set set rows)

pub cells_at : (tasks : List Task) (number : ℕ) (d : Task) → number < length tasks → cells_set (get_or tasks number d).sets ≡ cells_of_number tasks number
cells_at [] number d within = absurd (omega arith)
cells_at (task ∷ tasks) zero d within = refl
cells_at (task ∷ tasks) (suc number) d within = cells_at tasks number d (omega arith)

pub no_cells_past : (tasks : List Task) (number : ℕ) → length tasks ≤ number → [] ≡ cells_of_number tasks number
no_cells_past [] number past = refl
no_cells_past (task ∷ tasks) zero past = absurd (omega arith)
no_cells_past (task ∷ tasks) (suc number) past = no_cells_past tasks number (omega arith)

no_fault : (a b : Option FileFault) → unless_fault a ≡ Ok [] → first_fault a b ≡ b
no_fault None b is = refl
no_fault (Some fault) b is = cc

first_told : (a b : Option FileFault) (fault : FileFault) → IsFaultOr (is_file_memory fault) fault (unless_fault a) → IsFaultOr (is_file_memory fault) fault (unless_fault (first_fault a b))
first_told None b fault is = fault_along (is_file_memory fault) fault (unless_fault None) (unless_fault b) is (λ err. cc)
first_told (Some f) b fault is = is

-- the clashes of the slots from number i on
slots_left : (tasks : List Task) (slots : List SlotRow) (i : ℕ) (row : SlotRow) → i < length slots → row ≡ get_or slots i row
    → clash_from tasks i (drop i slots)
    ≡ first_fault (task_clash_from tasks i [] [] 0 row.tasks) (first_fault (vote_clash_from i [] 0 row.votes) (clash_from tasks (i + 1) (drop (i + 1) slots)))
slots_left tasks slots i row within is =
    ap (clash_from tasks i) (drop_more slots i row within ∙ ap (λ r. r ∷ drop (i + 1) slots) (sym is))

pub slot_passed :
    (tasks : List Task) (slots : List SlotRow) (i : ℕ) (row : SlotRow) → i < length slots → row ≡ get_or slots i row →
    clash_from tasks 0 slots ≡ clash_from tasks i (drop i slots) →
    unless_fault (task_clash_from tasks i [] [] 0 row.tasks) ≡ Ok [] → unless_fault (vote_clash_from i [] 0 row.votes) ≡ Ok [] →
    clash_from tasks 0 slots ≡ clash_from tasks (i + 1) (drop (i + 1) slots)
slot_passed tasks slots i row within is left runs votes =
    left ∙ (slots_left tasks slots i row within is
    ∙ (no_fault (task_clash_from tasks i [] [] 0 row.tasks) _ runs ∙ no_fault (vote_clash_from i [] 0 row.votes) _ votes))

pub runs_clash :
    (tasks : List Task) (slots : List SlotRow) (i : ℕ) (row : SlotRow) (fault : FileFault) → i < length slots → row ≡ get_or slots i row →
    clash_from tasks 0 slots ≡ clash_from tasks i (drop i slots) →
    IsFaultOr (is_file_memory fault) fault (unless_fault (task_clash_from tasks i [] [] 0 row.tasks)) →
    IsFaultOr (is_file_memory fault) fault (unless_fault (clash_from tasks 0 slots))
runs_clash tasks slots i row fault within is left runs =
    let later = first_fault (vote_clash_from i [] 0 row.votes) (clash_from tasks (i + 1) (drop (i + 1) slots)) in
    rw (left ∙ slots_left tasks slots i row within is) (first_told (task_clash_from tasks i [] [] 0 row.tasks) later fault runs)

pub votes_clash :
    (tasks : List Task) (slots : List SlotRow) (i : ℕ) (row : SlotRow) (fault : FileFault) → i < length slots → row ≡ get_or slots i row →
    clash_from tasks 0 slots ≡ clash_from tasks i (drop i slots) →
    unless_fault (task_clash_from tasks i [] [] 0 row.tasks) ≡ Ok [] → IsFaultOr (is_file_memory fault) fault (unless_fault (vote_clash_from i [] 0 row.votes)) →
    IsFaultOr (is_file_memory fault) fault (unless_fault (clash_from tasks 0 slots))
votes_clash tasks slots i row fault within is left runs votes =
    let later = clash_from tasks (i + 1) (drop (i + 1) slots) in
    rw (left ∙ (slots_left tasks slots i row within is ∙ no_fault (task_clash_from tasks i [] [] 0 row.tasks) _ runs))
    (first_told (vote_clash_from i [] 0 row.votes) later fault votes)

either : (a b : Bool) → b ≡ true → (a || b) ≡ true
either true b is = refl
either false b is = is

neither : (a b : Bool) → a ≡ false → b ≡ false → (a || b) ≡ false
neither a b a_is b_is = ap (λ v. v || b) a_is ∙ b_is

cells_again : (tasks : List Task) (set : List ℕ) (number : ℕ) (rows : List SetRow) → cells_set rows ≡ cells_of_number tasks number
    → list_any (has_number set) (cells_of_number tasks number) ≡ list_any (λ row. has_number set row.cell) rows
cells_again tasks set number rows cells = ap (list_any (has_number set)) (sym cells) ∙ sym (any_set set rows)

-- the clashes of a slot's tasks from entry j on
tasks_left : (tasks : List Task) (i : ℕ) (set : List ℕ) (j : ℕ) (numbers : List ℕ) → j < length numbers
    → task_clash_from tasks i (take j numbers) set j (drop j numbers)
    ≡ (if has_number (take j numbers) (get_or numbers j 0) || list_any (has_number set) (cells_of_number tasks (get_or numbers j 0)) then Some (slot_clash i key.Tasks j)
    else task_clash_from tasks i (take j numbers ++ get_or numbers j 0 ∷ []) (set ++ cells_of_number tasks (get_or numbers j 0)) (j + 1) (drop (j + 1) numbers))
tasks_left tasks i set j numbers within = ap (task_clash_from tasks i (take j numbers) set j) (drop_more numbers j 0 within)

pub task_clashes :
    (tasks : List Task) (i : ℕ) (set : List ℕ) (j : ℕ) (numbers : List ℕ) (rows : List SetRow) → j < length numbers →
    task_clash_from tasks i [] [] 0 numbers ≡ task_clash_from tasks i (take j numbers) set j (drop j numbers) →
    cells_set rows ≡ cells_of_number tasks (get_or numbers j 0) →
    (has_number (take j numbers) (get_or numbers j 0) ≡ true) ⊎ (list_any (λ row. has_number set row.cell) rows ≡ true) →
    unless_fault (task_clash_from tasks i [] [] 0 numbers) ≡ Err (slot_clash i key.Tasks j)
task_clashes tasks i set j numbers rows within left cells (inl twice) =
    let clashes : (has_number (take j numbers) (get_or numbers j 0) || list_any (has_number set) (cells_of_number tasks (get_or numbers j 0))) ≡ true =
    ap (λ v. v || list_any (has_number set) (cells_of_number tasks (get_or numbers j 0))) twice
    in
    ap unless_fault (left ∙ (tasks_left tasks i set j numbers within
    ∙ ap (λ v. if v then Some (slot_clash i key.Tasks j) else task_clash_from tasks i (take j numbers ++ get_or numbers j 0 ∷ []) (set ++ cells_of_number tasks (get_or numbers j 0)) (j + 1) (drop (j + 1) numbers)) clashes))
task_clashes tasks i set j numbers rows within left cells (inr again) =
    let clashes : (has_number (take j numbers) (get_or numbers j 0) || list_any (has_number set) (cells_of_number tasks (get_or numbers j 0))) ≡ true =
    either (has_number (take j numbers) (get_or numbers j 0)) (list_any (has_number set) (cells_of_number tasks (get_or numbers j 0)))
    (cells_again tasks set (get_or numbers j 0) rows cells ∙ again)
    in
    ap unless_fault (left ∙ (tasks_left tasks i set j numbers within
    ∙ ap (λ v. if v then Some (slot_clash i key.Tasks j) else task_clash_from tasks i (take j numbers ++ get_or numbers j 0 ∷ []) (set ++ cells_of_number tasks (get_or numbers j 0)) (j + 1) (drop (j + 1) numbers)) clashes))

pub task_passes :
    (tasks : List Task) (i : ℕ) (set : List ℕ) (j : ℕ) (numbers : List ℕ) (rows : List SetRow) → j < length numbers →
    task_clash_from tasks i [] [] 0 numbers ≡ task_clash_from tasks i (take j numbers) set j (drop j numbers) →
    cells_set rows ≡ cells_of_number tasks (get_or numbers j 0) →
    has_number (take j numbers) (get_or numbers j 0) ≡ false → list_any (λ row. has_number set row.cell) rows ≡ false →
    task_clash_from tasks i [] [] 0 numbers ≡ task_clash_from tasks i (take (j + 1) numbers) (set ++ cells_set rows) (j + 1) (drop (j + 1) numbers)
task_passes tasks i set j numbers rows within left cells once apart =
    let passes : (has_number (take j numbers) (get_or numbers j 0) || list_any (has_number set) (cells_of_number tasks (get_or numbers j 0))) ≡ false =
    neither (has_number (take j numbers) (get_or numbers j 0)) (list_any (has_number set) (cells_of_number tasks (get_or numbers j 0))) once
    (cells_again tasks set (get_or numbers j 0) rows cells ∙ apart)
    in
    left ∙ (tasks_left tasks i set j numbers within
    ∙ (ap (λ v. if v then Some (slot_clash i key.Tasks j) else task_clash_from tasks i (take j numbers ++ get_or numbers j 0 ∷ []) (set ++ cells_of_number tasks (get_or numbers j 0)) (j + 1) (drop (j + 1) numbers)) passes
    ∙ (ap (λ seen. task_clash_from tasks i seen (set ++ cells_of_number tasks (get_or numbers j 0)) (j + 1) (drop (j + 1) numbers)) (sym (take_more numbers j 0 within))
    ∙ ap (λ c. task_clash_from tasks i (take (j + 1) numbers) (set ++ c) (j + 1) (drop (j + 1) numbers)) (sym cells))))
