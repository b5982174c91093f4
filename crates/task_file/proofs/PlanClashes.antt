-- Slots in which no clash is found: none of their entries stands twice, and no two of a slot's tasks set one cell.
-- This project's own.
use Rattle.std.specs.Prelude.{All, AllPairs, slice_index_or, ◌||◌, ◌==◌}
use Rattle.std.specs.List.{list_any}
use Rattle.std.proofs.Common.{◌≡◌, ◌≢◌, ℕ, zero, suc, ◌+◌, List, [], ◌∷◌, ◌++◌, Bool, true, false, cond, Option, Some, None, refl, sym, ap, ◌∙◌, subst, arith, append_assoc, append-nil}
use Rattle.std.proofs.lemmas.List.{map_push}
use Rattle.std.proofs.lemmas.List.Elements.{All-nil, All-cons, All-push, All-weaker}
use Rattle.std.proofs.lemmas.List.Folds.{list_any_at, list_any-append}
use Rattle.std.proofs.lemmas.List.Quantifiers.{all_pairs_push}
use Rattle.rcp_base.specs.Answers.{has_number}
use Rattle.rcp_base.proofs.StepLaws.{neither_found}
use Rattle.rcp_model.specs.declared.task.SetRow.{SetRow}
use Rattle.rcp_model.specs.declared.task.Task.{Task}
use Rattle.rcp_model.specs.declared.plan.SlotRow.{SlotRow}
use Rattle.rcp_model.specs.Slot.{no_task, numbered}
use Rattle.rcp_model.specs.Plan.{SetApart}
use Rattle.task_file.specs.declared.fault.FileFault.{FileFault}
use Rattle.task_file.specs.declared.fault.FileFault.TheVariants.{SlotClash}
use Rattle.task_file.specs.Places.{of_entry}
use Rattle.task_file.specs.Slots.{cells_set, cells_of_number, task_clash_from, vote_clash_from, clash_from}
use Rattle.task_file.specs.declared.path.Key.TheVariants as key
use Rattle.task_file.specs.declared.path.Section.TheVariants as section

-- what none passes each fails
each_fails : {X : Type 0} (test : X → Bool) (xs : List X) → list_any test xs ≡ false → All (λ x. test x ≡ false) xs
each_fails {X} test xs none k d below = by_case (test (slice_index_or xs k d)) refl
  where
    by_case : (b : Bool) → test (slice_index_or xs k d) ≡ b → test (slice_index_or xs k d) ≡ false
    by_case false is = is
    by_case true is = let some : list_any test xs ≡ true = list_any_at test xs k d below is in cc

same_number : (n : ℕ) → (n == n) ≡ true
same_number n = grind arith

other_numbers : (before : List ℕ) (number : ℕ) → has_number before number ≡ false → All (λ other. other ≢ number) before
other_numbers before number none k d below same =
    let passes : (slice_index_or before k d == number) ≡ true = ap (λ n. n == number) same ∙ same_number number in
    let some : has_number before number ≡ true = list_any_at (λ n. n == number) before k d below passes in
    cc

numbers_more : (before : List ℕ) (number : ℕ) → AllPairs (λ a b. a ≢ b) before → has_number before number ≡ false → AllPairs (λ a b. a ≢ b) (before ++ number ∷ [])
numbers_more before number distinct new = all_pairs_push (λ a b. a ≢ b) before number distinct (other_numbers before number new)

any_cell : (test : ℕ → Bool) (rows : List SetRow) → list_any test (cells_set rows) ≡ list_any (λ (row : SetRow). test row.cell) rows
any_cell test [] = refl
any_cell test (row ∷ rows) = ap (λ b. test row.cell || b) (any_cell test rows)

cells_are : (tasks : List Task) (number : ℕ) → cells_of_number tasks number ≡ cells_set (slice_index_or tasks number no_task).sets
cells_are [] number = refl
cells_are (task ∷ tasks) zero = refl
cells_are (task ∷ tasks) (suc number) = cells_are tasks number

-- the cells that a task sets are among these
abbrev SetsWithin : List ℕ → Task → Type 0
SetsWithin set task = All (λ (row : SetRow). has_number set row.cell ≡ true) task.sets

sets_its_own : (task : Task) → SetsWithin (cells_set task.sets) task
sets_its_own task k d below =
    let cell = (slice_index_or task.sets k d).cell in
    any_cell (λ n. n == cell) task.sets ∙ list_any_at (λ (row : SetRow). row.cell == cell) task.sets k d below (same_number cell)

within_more : (set more : List ℕ) (task : Task) → SetsWithin set task → SetsWithin (set ++ more) task
within_more set more task within k d below =
    let cell = (slice_index_or task.sets k d).cell in
    list_any-append (λ n. n == cell) set more ∙ ap (λ b. b || has_number more cell) (within k d below)

within_last : (set more : List ℕ) (task : Task) → SetsWithin more task → SetsWithin (set ++ more) task
within_last set more task within k d below =
    let cell = (slice_index_or task.sets k d).cell in
    list_any-append (λ n. n == cell) set more ∙ (ap (λ b. has_number set cell || b) (within k d below) ∙ or_true (has_number set cell))
  where
    or_true : (b : Bool) → (b || true) ≡ true
    or_true true = refl
    or_true false = refl

-- the tasks so far, which set these cells
record RunsApart (tasks : List Task) (before set : List ℕ) : Type 0 where
  distinct : AllPairs (λ a b. a ≢ b) before
  apart : SetApart (numbered tasks before)
  within : All (SetsWithin set) (numbered tasks before)

abbrev AreApart : Task → Task → Type 0
AreApart a b = All (λ (x : SetRow). All (λ (y : SetRow). x.cell ≢ y.cell) b.sets) a.sets

module _ (tasks : List Task) where
  no_runs : RunsApart tasks [] []
  no_runs = record {
    distinct = λ i j d less below. absurd (omega arith);
    apart = λ i j d less below. absurd (omega arith);
    within = All-nil (SetsWithin []);
  }

  runs_more : (before set : List ℕ) (number : ℕ) → RunsApart tasks before set → has_number before number ≡ false → list_any (has_number set) (cells_of_number tasks number) ≡ false
      → RunsApart tasks (before ++ number ∷ []) (set ++ cells_of_number tasks number)
  runs_more before set number runs new none =
      let task = slice_index_or tasks number no_task in
      let cells = cells_of_number tasks number in
      let runs_are : numbered tasks (before ++ number ∷ []) ≡ numbered tasks before ++ task ∷ [] = map_push (λ number. slice_index_or tasks number no_task) before number in
      let unset : All (λ (row : SetRow). has_number set row.cell ≡ false) task.sets =
      each_fails (λ (row : SetRow). has_number set row.cell) task.sets (sym (any_cell (has_number set) task.sets) ∙ (ap (list_any (has_number set)) (sym (cells_are tasks number)) ∙ none)) in
      let own : SetsWithin cells task = subst (λ list. SetsWithin list task) (sym (cells_are tasks number)) (sets_its_own task) in
      record {
        distinct = numbers_more before number runs.distinct new;
        apart = subst SetApart (sym runs_are) (all_pairs_push AreApart (numbered tasks before) task runs.apart (λ k d below m e inside n f there same.
            let once : has_number set _ ≡ true = runs.within k d below m e inside in
            let never : has_number set _ ≡ false = unset n f there in
            let both = ap (has_number set) same in
            cc));
        within = subst (All (SetsWithin (set ++ cells))) (sym runs_are)
            (All-push (SetsWithin (set ++ cells)) (numbered tasks before) task
            (All-weaker (SetsWithin set) (SetsWithin (set ++ cells)) (within_more set cells) (numbered tasks before) runs.within) (within_last set cells task own));
      }

  runs_follow : (i : ℕ) (before set : List ℕ) (j : ℕ) (numbers : List ℕ) → RunsApart tasks before set → task_clash_from tasks i before set j numbers ≡ None
      → (all : List ℕ) × RunsApart tasks (before ++ numbers) all
  runs_follow i before set j [] runs none = (set, subst (λ list. RunsApart tasks list set) (sym (append-nil before)) runs)
  runs_follow i before set j (number ∷ numbers) runs none =
      let cells = cells_of_number tasks number in
      by_case (has_number before number) refl (list_any (has_number set) cells) refl none (runs_follow i (before ++ number ∷ []) (set ++ cells) (j + 1) numbers)
    where
      rest : Option FileFault
      rest = task_clash_from tasks i (before ++ number ∷ []) (set ++ cells_of_number tasks number) (j + 1) numbers

      by_case : (again : Bool) → has_number before number ≡ again → (clash : Bool) → list_any (has_number set) (cells_of_number tasks number) ≡ clash
          → cond (again || clash) (Some (SlotClash (of_entry section.Slot i key.Tasks j))) rest ≡ None
          → (RunsApart tasks (before ++ number ∷ []) (set ++ cells_of_number tasks number) → rest ≡ None
          → (all : List ℕ) × RunsApart tasks (before ++ number ∷ [] ++ numbers) all)
          → (all : List ℕ) × RunsApart tasks (before ++ number ∷ numbers) all
      by_case false new false apart none follow =
          let all = follow (runs_more before set number runs new apart) none in
          (all.0, subst (λ list. RunsApart tasks list all.0) (append_assoc before (number ∷ []) numbers) all.1)
      by_case false new true clash none follow = cc
      by_case true again clash _ none follow = cc

votes_follow : (i : ℕ) (before : List ℕ) (j : ℕ) (numbers : List ℕ) → AllPairs (λ a b. a ≢ b) before → vote_clash_from i before j numbers ≡ None
    → AllPairs (λ a b. a ≢ b) (before ++ numbers)
votes_follow i before j [] distinct none = subst (AllPairs (λ a b. a ≢ b)) (sym (append-nil before)) distinct
votes_follow i before j (number ∷ numbers) distinct none =
    by_case (has_number before number) refl none (votes_follow i (before ++ number ∷ []) (j + 1) numbers)
  where
    rest : Option FileFault
    rest = vote_clash_from i (before ++ number ∷ []) (j + 1) numbers

    by_case : (again : Bool) → has_number before number ≡ again → cond again (Some (SlotClash (of_entry section.Slot i key.Votes j))) rest ≡ None
        → (AllPairs (λ a b. a ≢ b) (before ++ number ∷ []) → rest ≡ None → AllPairs (λ a b. a ≢ b) (before ++ number ∷ [] ++ numbers))
        → AllPairs (λ a b. a ≢ b) (before ++ number ∷ numbers)
    by_case false new none follow =
        subst (AllPairs (λ a b. a ≢ b)) (append_assoc before (number ∷ []) numbers) (follow (numbers_more before number distinct new) none)
    by_case true again none follow = cc

-- a slot without a clash
pub record IsApart (tasks : List Task) (slot : SlotRow) : Type 0 where
  pub tasks_distinct : AllPairs (λ a b. a ≢ b) slot.tasks
  pub votes_distinct : AllPairs (λ a b. a ≢ b) slot.votes
  pub apart : SetApart (numbered tasks slot.tasks)

-- so is each slot where no clash is found
pub rows_apart : (tasks : List Task) (i : ℕ) (rows : List SlotRow) → clash_from tasks i rows ≡ None → All (IsApart tasks) rows
rows_apart tasks i [] none = All-nil (IsApart tasks)
rows_apart tasks i (row ∷ rows) none =
    let (no_run, none) = neither_found (task_clash_from tasks i [] [] 0 row.tasks) _ none in
    let (no_vote, none) = neither_found (vote_clash_from i [] 0 row.votes) _ none in
    let runs = (runs_follow tasks i [] [] 0 row.tasks (no_runs tasks) no_run).1 in
    All-cons (IsApart tasks) row rows
    (record {
      tasks_distinct = runs.distinct;
      votes_distinct = votes_follow i [] 0 row.votes (λ i j d less below. absurd (omega arith)) no_vote;
      apart = runs.apart;
    })
    (rows_apart tasks (i + 1) rows none)
