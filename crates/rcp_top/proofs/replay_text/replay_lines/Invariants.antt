-- The run stands for the frames so far, and the text of the frames that are left is to be written.
use Rattle.std.proofs.Common.{◌≡◌}
use Rattle.rcp_base.specs.Adding.{IsHalfway}
use Rattle.rcp_model.specs.History.{History, past_of}
use Rattle.layer_stack.specs.Inputs.{IsHistoryOf}
use Rattle.layer_stack.specs.Run.{StandsFor}
use Rattle.rcp_top.specs.Replay.{replay_frame_text, run_text}
use Rattle.rcp_top.proofs.RunLemmas.{rest_of_run}
use Rattle.rcp_top.proofs.replay_text.replay_lines.Given as goal

abbrev pub invariant-loop-t : goal.invariant-loop-t
invariant-loop-t g l = record {
  seen : g.I.Inputs.done l.inputs ≡ l.t;
  plan : l.run.plan ≡ l.fn.run.plan;
  bound : l.run.length ≡ l.fn.run.length;
  told : (history : History) → g.I.Inputs.tells l.initial.inputs l.plan history → g.I.Inputs.tells l.inputs l.plan history;
  stands : (history : History) → g.I.Inputs.tells l.initial.inputs l.plan history → IsHistoryOf l.plan history → StandsFor g.L.Layer.is_at l.run (past_of history l.t);
  text : (history : History) → g.I.Inputs.tells l.initial.inputs l.plan history → IsHistoryOf l.plan history
      → IsHalfway (g.S.Sink.state l.initial.out) (g.S.Sink.state l.out) l.so_far (rest_of_run (replay_frame_text l.plan l.fn.run.length) history l.t) (run_text l.plan l.fn.run.length history);
}
