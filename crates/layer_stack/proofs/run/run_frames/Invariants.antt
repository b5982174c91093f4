use Rattle.std.proofs.Common.{◌≡◌, ◌+◌, slice_get, Some}
use Rattle.rcp_model.specs.FrameRows.{FrameRows}
use Rattle.rcp_model.specs.History.{History, past_of}
use Rattle.layer_stack.specs.Run.{StandsFor, CanRun}
use Rattle.layer_stack.proofs.run.run_frames.Given as goal

abbrev pub invariant-loop-frame : goal.invariant-loop-frame
invariant-loop-frame g l =
    let tells = g.I.Inputs.tells in
    let done = g.I.Inputs.done in
    let at = g.L.Layer.is_at in
    record {
      plan : l.run.plan ≡ l.fn.run.plan;
      bound : l.run.length ≡ l.fn.run.length;
      seen : done l.inputs ≡ done l.fn.inputs + l._frame;
      told : (history : History) → tells l.fn.inputs l.fn.run.plan.now history → tells l.inputs l.run.plan.now history;
      start : l._frame ≡ 0 → (l.run ≡ l.fn.run) × (l.inputs ≡ l.fn.inputs);
      went : l._frame ≡ 1 → (history : History) (rows : FrameRows) → tells l.fn.inputs l.fn.run.plan.now history → CanRun at l.fn.run history (done l.fn.inputs) 1
          → slice_get history (done l.fn.inputs) ≡ Some rows → g.L.Layer.went l.fn.run.layer rows l.run.layer;
      stands : (history : History) → tells l.fn.inputs l.fn.run.plan.now history → CanRun at l.fn.run history (done l.fn.inputs) l.count → StandsFor at l.run (past_of history (done l.inputs));
    }
