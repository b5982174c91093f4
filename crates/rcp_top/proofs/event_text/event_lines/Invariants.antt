-- The run stands for the frames so far, its picker has the answers that are left, and the text of the frames that are left is to
-- be written.
use Rattle.std.proofs.Common.{◌≡◌, ℕ, Some}
use Rattle.rcp_base.specs.Adding.{IsHalfway}
use Rattle.clocked_layer.specs.Stepped.{RestsAt}
use Rattle.rcp_model.specs.History.{History, past_of}
use Rattle.layer_stack.specs.Inputs.{IsHistoryOf}
use Rattle.layer_stack.specs.Run.{StandsFor}
use Rattle.rcp_top.specs.Events.{answers_left, event_frame_text, events_text}
use Rattle.rcp_top.proofs.RunLemmas.{rest_of_run}
use Rattle.rcp_top.proofs.event_text.event_lines.Given as goal

abbrev pub invariant-loop-t : goal.invariant-loop-t
invariant-loop-t g l = record {
  seen : g.I.Inputs.done l.inputs ≡ l.t;
  plan : l.run.plan ≡ l.fn.run.plan;
  bound : l.run.length ≡ l.fn.run.length;
  told : (history : History) → g.I.Inputs.tells l.initial.inputs l.plan history → g.I.Inputs.tells l.inputs l.plan history;
  stands : (history : History) → g.I.Inputs.tells l.initial.inputs l.plan history → IsHistoryOf l.plan history
      → StandsFor (λ timed. RestsAt (g.B.Stepped.rests timed.block)) l.run (past_of history l.t);
  answers : (history : History) (answers : ℕ → ℕ) → g.I.Inputs.tells l.initial.inputs l.plan history → IsHistoryOf l.plan history
      → g.B.Stepped.answers l.fn.run.layer.block ≡ Some answers
      → g.B.Stepped.answers l.run.layer.block ≡ Some (answers_left l.plan answers (past_of history l.t));
  text : (history : History) (answers : ℕ → ℕ) → g.I.Inputs.tells l.initial.inputs l.plan history → IsHistoryOf l.plan history
      → g.B.Stepped.answers l.fn.run.layer.block ≡ Some answers
      → IsHalfway (g.S.Sink.state l.initial.out) (g.S.Sink.state l.out) l.so_far (rest_of_run (event_frame_text l.plan answers) history l.t) (events_text l.plan answers history);
}
