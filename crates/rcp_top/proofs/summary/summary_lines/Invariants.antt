-- The run stands for the frames so far, and what they amount to was counted.
use Rattle.std.proofs.Common.{◌≡◌}
use Rattle.rcp_model.specs.History.{History, past_of}
use Rattle.layer_stack.specs.Inputs.{IsHistoryOf}
use Rattle.layer_stack.specs.Run.{StandsFor}
use Rattle.rcp_top.specs.Summary.{counts_of}
use Rattle.rcp_top.proofs.summary.summary_lines.Given as goal

abbrev pub invariant-loop-frame : goal.invariant-loop-frame
invariant-loop-frame g l = record {
  seen : g.I.Inputs.done l.inputs ≡ l._frame;
  plan : l.run.plan ≡ l.fn.run.plan;
  bound : l.run.length ≡ l.fn.run.length;
  told : (history : History) → g.I.Inputs.tells l.initial.inputs l.plan history → g.I.Inputs.tells l.inputs l.plan history;
  stands : (history : History) → g.I.Inputs.tells l.initial.inputs l.plan history → IsHistoryOf l.plan history → StandsFor g.L.Layer.is_at l.run (past_of history l._frame);
  counted : (history : History) → g.I.Inputs.tells l.initial.inputs l.plan history → IsHistoryOf l.plan history
      → l.counts ≡ counts_of l.plan l.fn.run.length (past_of history l._frame);
}
