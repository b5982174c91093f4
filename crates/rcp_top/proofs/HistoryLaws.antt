-- The rows of the next frame of a history, and what the frame after it is filled into.
use Rattle.std.proofs.Common.{◌≡◌, ℕ, ℤ, List, ◌+◌, ◌<◌, length, get_or, slice_get, Some, ap, sym, ◌∙◌, subst, arith}
use Rattle.std.proofs.lemmas.Option.{slice_get_within, get_or_from_slice_get}
use Rattle.std.proofs.lemmas.List.{length-map, get_or-map}
use Rattle.std.proofs.lemmas.List.Elements.{All-get_or}
use Rattle.rcp_model.specs.declared.plan.PlanParts.{PlanParts}
use Rattle.rcp_model.specs.Uniprocessor.{initial_values}
use Rattle.rcp_model.specs.FrameLimits.{IsFrameOf}
use Rattle.rcp_model.specs.FrameRows.{FrameRows, no_rows}
use Rattle.rcp_model.specs.History.{History, past_of}
use Rattle.layer_stack.specs.Inputs.{IsHistoryOf, CanFill, sensors_after}
use Rattle.rcp_top.specs.Ideal.{sensors_of_history}
use Rattle.rcp_top.proofs.FrameLemmas.{past_more}

-- rows of the plan, which hold the sensors after t frames of the history
pub record AreRowsAfter (plan : PlanParts) (history : History) (t : ℕ) (rows : FrameRows) : Type 0 where
  pub of_plan : IsFrameOf plan rows
  pub held : rows.sensors ≡ sensors_after plan (past_of history t)

pub before_the_first : (plan : PlanParts) (history : History) (rows : FrameRows) → IsFrameOf plan rows → rows ≡ no_rows plan (initial_values plan.sensors)
    → AreRowsAfter plan history 0 rows
unfolding no_rows
before_the_first plan history rows of_plan is = record { of_plan = of_plan; held = ap (λ r. r.sensors) is }

pub can_fill : (plan : PlanParts) (history : History) (t : ℕ) (rows : FrameRows) → IsHistoryOf plan history → t < length history → AreRowsAfter plan history t rows
    → CanFill plan history t rows
can_fill plan history t rows are more rows_are = record { history_of_plan = are; more = more; rows_of_plan = rows_are.of_plan; sensors = rows_are.held }

-- after the frame that was filled in
pub after_the_next : (plan : PlanParts) (history : History) (t : ℕ) (rows : FrameRows) → IsHistoryOf plan history → slice_get history t ≡ Some rows
    → AreRowsAfter plan history (t + 1) rows
after_the_next plan history t rows are is =
    let lt = slice_get_within history t rows is in
    let there : get_or history t rows ≡ rows = get_or_from_slice_get history t rows rows is in
    let P : FrameRows → Type 0 = IsFrameOf plan in
    record {
      of_plan = subst P there (All-get_or P history t rows lt are.frames);
      held = sym (ap (sensors_after plan) (past_more history t rows lt (sym there)));
    }

-- there are as many sensor values as frames
pub as_many : (history : History) → length (sensors_of_history history) ≡ length history
as_many history = length-map history (λ rows. rows.sensors)

-- the frame that was filled in has the sensor values of its place
pub sensors_there : (history : History) (t : ℕ) (rows : FrameRows) → slice_get history t ≡ Some rows
    → rows.sensors ≡ get_or (sensors_of_history history) t rows.sensors
sensors_there history t rows is =
    let lt = slice_get_within history t rows is in
    let there : get_or history t rows ≡ rows = get_or_from_slice_get history t rows rows is in
    sym (get_or-map (λ rows. rows.sensors) history t rows rows.sensors lt ∙ ap (λ r. r.sensors) there)

-- the same place by another name
pub is_there : (history : History) (n t : ℕ) (rows : FrameRows) → n ≡ t → slice_get history n ≡ Some rows → slice_get history t ≡ Some rows
is_there history n t rows same is = let P : ℕ → Type 0 = λ k. slice_get history k ≡ Some rows in subst P same is

pub can_fill_at : (plan : PlanParts) (history : History) (n t : ℕ) (rows : FrameRows) → n ≡ t → IsHistoryOf plan history → t < length history
    → AreRowsAfter plan history t rows → CanFill plan history n rows
can_fill_at plan history n t rows same are more rows_are =
    let P : ℕ → Type 0 = λ k. CanFill plan history k rows in subst P (sym same) (can_fill plan history t rows are more rows_are)

-- these rows are those of frame t, and have these sensors
pub record IsFrameAt (history : History) (t : ℕ) (rows : FrameRows) (sensors : List ℤ) : Type 0 where
  pub is : slice_get history t ≡ Some rows
  pub below : t < length (sensors_of_history history)
  pub there : sensors ≡ get_or (sensors_of_history history) t sensors

pub frame_at : (plan : PlanParts) (history : History) (n t : ℕ) (old rows : FrameRows) (sensors : List ℤ) → n ≡ t → IsHistoryOf plan history → t < length history
    → AreRowsAfter plan history t old → (CanFill plan history n old → slice_get history n ≡ Some rows) → sensors ≡ rows.sensors → IsFrameAt history t rows sensors
frame_at plan history n t old rows sensors same are more after filled held =
    let here = is_there history n t rows same (filled (can_fill_at plan history n t old same are more after)) in
    let P : List ℤ → Type 0 = λ xs. xs ≡ get_or (sensors_of_history history) t xs in
    record { is = here; below = omega (arith, more, as_many history); there = subst P (sym held) (sensors_there history t rows here) }
