-- The votes of the actuators so far were tallied behind the others.
use Rattle.std.proofs.Common.{◌≡◌, ℤ, List, ◌++◌, Option}
use Rattle.layer_stack.specs.Run.{StandsFor}
use Rattle.rcp_base.specs.Tables.{table}
use Rattle.rcp_model.specs.FrameRows.{FrameRows}
use Rattle.rcp_model.specs.System.{actuator_vote, state_after}
use Rattle.rcp_top.specs.Summary.{tally_of}
use Rattle.rcp_top.proofs.counts.with_votes.Given as goal

abbrev pub invariant-loop-actuator : goal.invariant-loop-actuator
invariant-loop-actuator g l =
    (votes : List (Option ℤ)) (past : List FrameRows) → l.initial.tally ≡ tally_of votes → StandsFor g.L.Layer.is_at l.run past
    → l.tally ≡ tally_of (votes ++ table l.actuator (actuator_vote l.plan (state_after l.plan past)))
