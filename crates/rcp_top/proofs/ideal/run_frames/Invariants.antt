-- The processor stands after the frames so far, the rows of the next can be filled in, and the text of the frames that are left is to be written.
use Rattle.std.proofs.Common.{◌≡◌}
use Rattle.rcp_base.specs.Adding.{IsHalfway}
use Rattle.rcp_model.specs.History.{History}
use Rattle.layer_stack.specs.Inputs.{IsHistoryOf}
use Rattle.uniproc_layer.specs.Uni.{StandsAfter}
use Rattle.rcp_top.specs.Ideal.{ideal_text, sensors_of_history}
use Rattle.rcp_top.proofs.FrameLemmas.{past_frames, rest_of}
use Rattle.rcp_top.proofs.HistoryLaws.{AreRowsAfter}
use Rattle.rcp_top.proofs.ideal.run_frames.Given as goal

abbrev pub invariant-loop-t : goal.invariant-loop-t
invariant-loop-t g l =
    (g.I.Inputs.done l.inputs ≡ l.t)
    × ((history : History) → g.I.Inputs.tells l.initial.inputs l.plan history → IsHistoryOf l.plan history → record {
      told : g.I.Inputs.tells l.inputs l.plan history;
      rows : AreRowsAfter l.plan history l.t l.input;
      uni : StandsAfter l.plan (past_frames (sensors_of_history history) l.t) l.uni;
      text : IsHalfway (g.S.Sink.state l.initial.out) (g.S.Sink.state l.out) l.so_far
          (rest_of l.plan (sensors_of_history history) l.t) (ideal_text l.plan (sensors_of_history history));
    })
