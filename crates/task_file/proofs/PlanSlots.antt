-- The slots of a file name tasks and cells that are there.
-- This project's own.
use Rattle.std.specs.Prelude.{All}
use Rattle.std.specs.Str.{bytes_eq}
use Rattle.std.proofs.Common.{◌≡◌, ℕ, ◌<◌, ◌≤◌, List, [], length, Ok, subst, arith}
use Rattle.std.proofs.lemmas.List.Quantifiers.{position-Some}
use Rattle.rcp_base.specs.declared.TheConstants.{MAX_TASKS, MAX_CELLS}
use Rattle.rcp_base.specs.Answers.{each_from}
use Rattle.rcp_base.proofs.StepLaws.{then_ok, found_ok, as_many_read, all_read, all_follow}
use Rattle.rcp_model.specs.declared.plan.SlotRow.{SlotRow}
use Rattle.task_file.specs.declared.path.Key.{Key}
use Rattle.task_file.specs.inner.Limits.{IsShortSlot}
use Rattle.task_file.specs.Sections.{RawSlot}
use Rattle.task_file.specs.Slots.{entry_number, slot_row_of, slot_rows_of}
use Rattle.task_file.specs.declared.path.Key.TheVariants as key

-- few entries, each the number of one of so many tasks or cells
pub record AreEntries (tasks cells : ℕ) (slot : SlotRow) : Type 0 where
  pub few_tasks : length slot.tasks ≤ MAX_TASKS
  pub few_votes : length slot.votes ≤ MAX_CELLS
  pub tasks_there : All (λ number. number < tasks) slot.tasks
  pub votes_there : All (λ number. number < cells) slot.votes

number_there : (names : List (List ℕ)) (i : ℕ) (at : Key) (j : ℕ) (entry : List ℕ) (number : ℕ) → entry_number names i at j entry ≡ Ok number → number < length names
number_there names i at j entry number is = (position-Some (bytes_eq entry) names number [] (found_ok _ _ number is)).0

module _ (tasks cells : List (List ℕ)) where
  row_there : (i : ℕ) (raw : RawSlot) (row : SlotRow) → IsShortSlot raw → slot_row_of tasks cells i raw ≡ Ok row → AreEntries (length tasks) (length cells) row
  row_there i raw row short is =
      let (runs, runs_are, is) = then_ok (each_from (entry_number tasks i key.Tasks) 0 raw.tasks) _ row is in
      let (votes, votes_are, is) = then_ok (each_from (entry_number cells i key.Votes) 0 raw.votes) _ row is in
      let both : SlotRow = record { tasks = runs; votes = votes } in
      let same : both ≡ row = cc in
      let as_many_runs = as_many_read (entry_number tasks i key.Tasks) 0 raw.tasks runs runs_are in
      let as_many_votes = as_many_read (entry_number cells i key.Votes) 0 raw.votes votes votes_are in
      subst (AreEntries (length tasks) (length cells)) same (record {
        few_tasks = omega (arith, short.tasks);
        few_votes = omega (arith, short.votes);
        tasks_there = all_read (entry_number tasks i key.Tasks) (λ number. number < length tasks) (number_there tasks i key.Tasks) 0 raw.tasks runs runs_are;
        votes_there = all_read (entry_number cells i key.Votes) (λ number. number < length cells) (number_there cells i key.Votes) 0 raw.votes votes votes_are;
      })

  -- so is each slot that is read
  pub rows_there : (raws : List RawSlot) (rows : List SlotRow) → All IsShortSlot raws → slot_rows_of tasks cells raws ≡ Ok rows
      → All (AreEntries (length tasks) (length cells)) rows
  unfolding slot_rows_of
  rows_there raws rows short is = all_follow (slot_row_of tasks cells) IsShortSlot (AreEntries (length tasks) (length cells)) row_there 0 raws rows short is

  -- as many are read as there are
  pub as_many_rows : (raws : List RawSlot) (rows : List SlotRow) → slot_rows_of tasks cells raws ≡ Ok rows → length rows ≡ length raws
  unfolding slot_rows_of
  as_many_rows raws rows is = as_many_read (slot_row_of tasks cells) 0 raws rows is
