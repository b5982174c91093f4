-- The replicas so far that are working were counted.
use Rattle.std.proofs.Common.{◌≡◌, ◌≤◌, List, count_by}
use Rattle.std.specs.List.{range_with_len}
use Rattle.layer_stack.specs.Run.{StandsFor}
use Rattle.rcp_model.specs.FrameRows.{FrameRows}
use Rattle.rcp_model.specs.Health.{is_working}
use Rattle.rcp_top.proofs.counts.working_count.Given as goal

abbrev pub invariant-loop-replica : goal.invariant-loop-replica
invariant-loop-replica g l = record {
  few : l.count ≤ l.replica;
  counted : (past : List FrameRows) → StandsFor g.L.Layer.is_at l.run past
      → l.count ≡ count_by (is_working l.plan l.run.length past) (range_with_len 0 l.replica);
}
