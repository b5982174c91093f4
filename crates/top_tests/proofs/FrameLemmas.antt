-- The first frame of a journal, and the next.
use Rattle.std.proofs.Common.{◌≡◌, ℕ, ◌+◌, suc, slice_get, Some, Result, Ok, Err, IfOk, ap, sym, subst, arith}
use Rattle.rcp_model.specs.declared.plan.PlanParts.{PlanParts}
use Rattle.rcp_model.specs.Uniprocessor.{initial_values}
use Rattle.rcp_model.specs.FrameLimits.{IsFrameOf}
use Rattle.rcp_model.specs.FrameRows.{FrameRows, no_rows}
use Rattle.rcp_model.specs.History.{History, past_of}
use Rattle.layer_stack.specs.Inputs.{sensors_after}
use Rattle.fault_journal.specs.declared.journal.Journal.{Journal}
use Rattle.fault_journal.specs.Telling.{Tells}
use Rattle.rcp_top.proofs.HistoryLaws.{after_the_next}
use Rattle.top_tests.specs.Frames.{IsAtStart, CanFillNext}

-- before the first frame the sensors have their initial values
pub can_fill_first : (plan : PlanParts) (history : History) (journal : Journal) (rows : FrameRows) → IsAtStart plan history journal
    → rows ≡ no_rows plan (initial_values plan.sensors) → IsFrameOf plan rows → CanFillNext plan history journal rows
unfolding no_rows
can_fill_first plan history journal rows is quiet of_plan =
    let P : ℕ → Type 0 = λ k. rows.sensors ≡ sensors_after plan (past_of history k) in
    record {
      tells = is.tells;
      history_of_plan = is.history_of_plan;
      of_plan = of_plan;
      sensors = subst P (sym is.start) (ap (λ (r : FrameRows). r.sensors) quiet);
    }

pub can_begin : {E : Type 0} (plan : PlanParts) (history : History) (journal : Journal) (result : Result FrameRows E) → IsAtStart plan history journal
    → IfOk result (λ rows. rows ≡ no_rows plan (initial_values plan.sensors)) → IfOk result (IsFrameOf plan)
    → IfOk result (λ rows. (history : History) × CanFillNext plan history journal rows)
can_begin plan history journal (Ok rows) is quiet of_plan = (history, can_fill_first plan history journal rows is quiet of_plan)
can_begin plan history journal (Err e) is quiet of_plan = tt

-- after a frame that was filled in, the rows have its sensors
pub can_fill_next : (plan : PlanParts) (history : History) (old new : Journal) (before rows : FrameRows) → CanFillNext plan history old before → Tells new plan history
    → new.done ≡ suc old.done → slice_get history old.done ≡ Some rows → CanFillNext plan history new rows
can_fill_next plan history old new before rows is tells done there =
    let next = after_the_next plan history old.done rows is.history_of_plan there in
    let same : old.done + 1 ≡ new.done = omega (arith, done) in
    let P : ℕ → Type 0 = λ k. rows.sensors ≡ sensors_after plan (past_of history k) in
    record { tells = tells; history_of_plan = is.history_of_plan; of_plan = next.of_plan; sensors = subst P same next.held }
