-- The lines of the replicas so far were added.
use Rattle.std.proofs.Common.{List, ◌∷◌, flat_map}
use Rattle.std.specs.List.{range_with_len}
use Rattle.rcp_base.specs.Adding.{Adds}
use Rattle.layer_stack.specs.Run.{StandsFor}
use Rattle.rcp_model.specs.FrameRows.{FrameRows}
use Rattle.rcp_top.specs.Replay.{held_line}
use Rattle.rcp_top.proofs.replay_text.write_replicas.Given as goal

abbrev pub invariant-loop-replica : goal.invariant-loop-replica
invariant-loop-replica g l =
    (rows : FrameRows) (past : List FrameRows) → StandsFor g.L.Layer.is_at l.run (rows ∷ past)
    → Adds (g.S.Sink.state l.initial.out) (g.S.Sink.state l.out) l.initial.so_far l.so_far
    (flat_map (held_line l.plan l.run.length rows past) (range_with_len 0 l.replica))
