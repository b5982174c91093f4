-- The run stands for one frame more, and the journal has it done.
use Rattle.std.proofs.Common.{◌≤◌, ◌+◌, length, ap, sym, subst, arith}
use Rattle.rcp_model.specs.declared.plan.PlanParts.{PlanParts}
use Rattle.layer_stack.specs.Inputs.{IsHistoryOf}
use Rattle.layer_stack.specs.Run.{CanRun}
use Rattle.layer_tests.proofs.shown.run_next.Goals as goal

pub returns-clause-goes : goal.returns-clause-goes
returns-clause-goes g c =
    let (history, is) = c.requires in
    let run = c.args.run.now in
    let journal = c.args.journal.now in
    let more : journal.done + 1 ≤ length history = omega (arith, c.done.ensures, c.frames.ensures run.plan.now history is.tells) in
    let can : CanRun {L = g.row.L.Denot} g.L.Layer.is_at run history journal.done 1 = record { of_plan = is.history_of_plan; more = more; stands = is.stands } in
    let OfPlan : PlanParts → Type 0 = λ plan. IsHistoryOf plan history in (
      history,
      record {
        tells = c.run_frames.ensures.history history is.tells;
        history_of_plan = subst OfPlan (sym (ap (λ plan. plan.now) c.run_frames.ensures.plan)) is.history_of_plan;
        stands = c.run_frames.ensures.stands history is.tells can;
      },
    )
