-- How many results the code of a plan has.
use Rattle.std.proofs.Common.{◌≡◌, ℕ, ◌<◌, ◌≤◌, ℤ, List, [], ◌∷◌, map, length, get_or, refl, ap, sym, ◌∙◌, ap₂, arith}
use Rattle.std.specs.List.{All}
use Rattle.std.proofs.lemmas.List.{get_or-map, get_or_default, length-map}
use Rattle.std.proofs.lemmas.List.Elements.{All-nil, All-cons, All-same, All-weaker}
use Rattle.rcp_model.specs.declared.task.SetRow.{SetRow}
use Rattle.rcp_model.specs.declared.task.Task.{Task}
use Rattle.rcp_model.specs.declared.plan.ActuatorRow.{ActuatorRow}
use Rattle.task_code.specs.declared.instruction.Instruction.{Instruction}
use Rattle.task_code.specs.Machine.{result_count}
use Rattle.task_code.specs.Compiler.{task_code, expr_code}
use Rattle.task_code.proofs.SizeLaws.{task_code_computes, expr_code_computes}
use Rattle.frame_table.specs.Tasks.{greatest_length, cells_after_code, cells_after_number}
use Rattle.frame_table.specs.Plan.{targets_of, commands_of}

-- a command has one result
pub one_each : (actuators : List ActuatorRow) (codes : List (List Instruction)) → codes ≡ commands_of actuators → All (λ code. result_count code ≡ 1) codes
one_each actuators codes is = All-same (λ code. result_count code ≡ 1) codes (commands_of actuators) is (ones actuators)
  where
    ones : (actuators : List ActuatorRow) → All (λ code. result_count code ≡ 1) (commands_of actuators)
    ones [] = All-nil (λ code. result_count code ≡ 1)
    ones (actuator ∷ actuators) =
        All-cons (λ code. result_count code ≡ 1) (expr_code actuator.value) (commands_of actuators) (expr_code_computes actuator.value).count (ones actuators)

-- a task's code has a result for each cell that it sets
pub counts_of : (tasks : List Task) → map result_count (map task_code tasks) ≡ map length (map targets_of tasks)
counts_of [] = refl
counts_of (task ∷ tasks) =
    ap₂ (λ (n : ℕ) (ns : List ℕ). n ∷ ns) ((task_code_computes task).count ∙ sym (length-map task.sets (λ (row : SetRow). row.cell))) (counts_of tasks)

pub same_counts :
    (codes : List (List Instruction)) (targets : List (List ℕ)) (tasks : List Task) → codes ≡ map task_code tasks → targets ≡ map targets_of tasks →
    map result_count codes ≡ map length targets
same_counts codes targets tasks code_is target_is = rw (code_is, target_is) (counts_of tasks)

-- so many results have so many cells to go to
pub as_many :
    (codes : List (List Instruction)) (targets : List (List ℕ)) (i : ℕ) (d : List Instruction) (e : List ℕ) →
    map result_count codes ≡ map length targets → i < length codes →
    result_count (get_or codes i d) ≡ length (get_or targets i e)
as_many codes targets i d e same below =
    let within : i < length targets = omega (arith, ap length same, length-map codes result_count, length-map targets (length {A = ℕ})) in
    sym (get_or-map result_count codes i d 0 below) ∙ ap (λ counts. get_or counts i 0) same ∙ get_or-map length targets i e 0 within

pub as_long :
    (codes : List (List Instruction)) (targets : List (List ℕ)) → map result_count codes ≡ map length targets → length codes ≡ length targets
as_long codes targets same = omega (arith, ap length same, length-map codes result_count, length-map targets (length {A = ℕ}))

-- no list is longer than the longest
pub none_longer : (lists : List (List ℕ)) → All (λ list. length list ≤ greatest_length lists) lists
none_longer [] = All-nil (λ list. length list ≤ 0)
none_longer (list ∷ lists) =
    All-cons (λ l. length l ≤ greatest_length (list ∷ lists)) list lists (omega arith)
    (All-weaker (λ l. length l ≤ greatest_length lists) (λ l. length l ≤ greatest_length (list ∷ lists)) (λ l fits. omega arith) lists (none_longer lists))

pub fit_within : (lists : List (List ℕ)) (n : ℕ) → n ≡ greatest_length lists → All (λ list. length list ≤ n) lists
fit_within lists n is = rw is (none_longer lists)

-- the code and the cells at one number
pub row_counts :
    (codes : List (List Instruction)) (targets : List (List ℕ)) (number : ℕ) (code : List Instruction) (target : List ℕ) →
    map result_count codes ≡ map length targets → number < length codes →
    code ≡ get_or codes number code → target ≡ get_or targets number target →
    result_count code ≡ length target
row_counts codes targets number code target same below code_is target_is =
    ap result_count code_is ∙ as_many codes targets number code target same below ∙ sym (ap length target_is)

pub row_ran :
    (codes : List (List Instruction)) (targets : List (List ℕ)) (number : ℕ) (code : List Instruction) (target : List ℕ) (sensors cells after : List ℤ) →
    map result_count codes ≡ map length targets → number < length codes →
    code ≡ get_or codes number code → target ≡ get_or targets number target →
    after ≡ cells_after_code code target sensors cells →
    after ≡ cells_after_number (record { codes = codes; targets = targets }) number sensors cells
row_ran codes targets number code target sensors cells after same below code_is target_is ran =
    let within : number < length targets = omega (arith, as_long codes targets same) in
    ran ∙ ap₂ (λ c t. cells_after_code c t sensors cells) (code_is ∙ get_or_default codes number code [] below) (target_is ∙ get_or_default targets number target [] within)
