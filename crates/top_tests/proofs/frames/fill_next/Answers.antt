-- The rows that were filled in are those of the next frame.
use Rattle.std.proofs.Common.{◌<◌, length, arith}
use Rattle.layer_stack.specs.Inputs.{CanFill}
use Rattle.top_tests.proofs.FrameLemmas.{can_fill_next}
use Rattle.top_tests.proofs.frames.fill_next.Goals as goal

pub returns : goal.returns
returns g c =
    let (history, is) = c.requires in
    let plan = c.args.plan.now in
    let journal = c.args.journal.now in
    let more : journal.done < length history = omega (arith, c.done.ensures, c.frames.ensures plan history is.tells) in
    let fills : CanFill plan history journal.done c.args.input.now = record { history_of_plan = is.history_of_plan; more = more; rows_of_plan = is.of_plan; sensors = is.sensors } in (
      history,
      can_fill_next plan history journal c.fill.new.self c.args.input.now c.fill.new.input is (c.fill.ensures.history plan history is.tells)
          c.fill.ensures.done (c.fill.ensures.rows plan history is.tells fills),
    )
