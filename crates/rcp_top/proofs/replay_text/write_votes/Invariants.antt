-- The lines of the actuators so far were added.
use Rattle.std.proofs.Common.{List, flat_map}
use Rattle.std.specs.List.{range_with_len}
use Rattle.rcp_base.specs.Adding.{Adds}
use Rattle.layer_stack.specs.Run.{StandsFor}
use Rattle.rcp_model.specs.FrameRows.{FrameRows}
use Rattle.rcp_top.specs.Replay.{voted_line}
use Rattle.rcp_top.proofs.replay_text.write_votes.Given as goal

abbrev pub invariant-loop-actuator : goal.invariant-loop-actuator
invariant-loop-actuator g l =
    (past : List FrameRows) → StandsFor g.L.Layer.is_at l.run past
    → Adds (g.S.Sink.state l.initial.out) (g.S.Sink.state l.out) l.initial.so_far l.so_far
    (flat_map (voted_line l.plan past) (range_with_len 0 l.actuator))
