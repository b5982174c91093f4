use Rattle.std.proofs.Common.{◌≡◌}
use Rattle.rcp_model.specs.History.{History}
use Rattle.layer_tests.specs.Runs.{GoesThrough}
use Rattle.layer_tests.proofs.shown.put_frames.Given as goal

abbrev pub invariant-loop-frame : goal.invariant-loop-frame
invariant-loop-frame g l =
    ((history : History) × GoesThrough {L = g.row.L.Denot} g.L.Layer.is_at l.run l.journal history) × (l.run.plan.now ≡ l.plan)
