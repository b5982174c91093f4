use Rattle.std.proofs.Common.{◌≡◌, ◌<◌, ℕ, length, slice_get, Some, sym, ap, subst, arith}
use Rattle.std.proofs.lemmas.List.Elements.{All-get_or}
use Rattle.std.proofs.lemmas.Option.{get_or_from_slice_get, slice_get_within}
use Rattle.fault_journal.specs.declared.journal.Journal.{Journal}
use Rattle.fault_journal.specs.Telling.{IsJournalOf, history_in}
use Rattle.layer_stack.specs.Inputs.{CanFill, IsHistoryOf}
use Rattle.rcp_model.specs.declared.plan.PlanParts.{PlanParts}
use Rattle.rcp_model.specs.FrameLimits.{IsFrameOf}
use Rattle.rcp_model.specs.FrameRows.{FrameRows, no_rows}
use Rattle.rcp_model.specs.History.{History}
use Rattle.rcp_model.specs.Uniprocessor.{initial_values}
use Rattle.layer_tests.proofs.deliveries.first_rows.Goals as goal

-- a journal before its first frame can fill new rows
can_fill : (plan : PlanParts) (journal : Journal) (rows : FrameRows) → IsJournalOf plan journal
    → 0 < length (history_in plan journal) → IsFrameOf plan rows
    → rows ≡ no_rows plan (initial_values plan.sensors)
    → CanFill plan (history_in plan journal) journal.done rows
unfolding no_rows
can_fill plan journal rows is more of_plan new =
    subst (λ done. CanFill plan (history_in plan journal) done rows) (sym is.start) (record {
      history_of_plan = is.history_of_plan;
      more = more;
      rows_of_plan = of_plan;
      sensors = ap (λ (rows : FrameRows). rows.sensors) new;
    })

-- each frame of a history has rows of its plan
frame_of : (plan : PlanParts) (history : History) (n : ℕ) (rows : FrameRows)
    → IsHistoryOf plan history → slice_get history n ≡ Some rows → IsFrameOf plan rows
frame_of plan history n rows of_plan is =
    subst (IsFrameOf plan) (get_or_from_slice_get history n rows rows is)
    (All-get_or (IsFrameOf plan) history n rows (slice_get_within history n rows is) of_plan.frames)

pub fill-requires : goal.fill-requires
fill-requires g c =
    let plan = c.args.plan.now in
    let journal = c.args.journal.now in
    let is = c.requires.journal in
    let more : 0 < length (history_in plan journal) = omega (arith, c.frames.ensures plan _ is.tells) in
    let new = c.in_ok-input.ensures in
    record { ready = (plan, _, is.tells, can_fill plan journal c.in_ok-input.input is more new.of_plan new.rows) }

pub returns : goal.returns
returns g c =
    let plan = c.args.plan.now in
    let journal = c.args.journal.now in
    let is = c.requires.journal in
    let more : 0 < length (history_in plan journal) = omega (arith, c.frames.ensures plan _ is.tells) in
    let new = c.in_ok-input.ensures in
    frame_of plan _ journal.done c.fill.new.input is.history_of_plan
    (c.fill.ensures.rows plan _ is.tells (can_fill plan journal c.in_ok-input.input is more new.of_plan new.rows))
