-- The cells so far stand in their places.
use Rattle.std.proofs.Common.{◌≡◌, ◌<◌, pos, length}
use Rattle.rcp_base.specs.declared.TheConstants.{MAX_CELLS}
use Rattle.rcp_base.specs.Filling.{Filled}
use Rattle.layer_stack.specs.Layer.{cell_in}
use Rattle.rcp_model.specs.declared.plan.PlanParts.{PlanParts}
use Rattle.rcp_model.specs.System.{SystemState}
use Rattle.rcp_top.proofs.replay_text.cells_of.Given as goal

abbrev pub invariant-loop-cell : goal.invariant-loop-cell
invariant-loop-cell g l =
    (plan : PlanParts) (state : SystemState) → g.L.Layer.is_at l.layer plan state → l.replica < plan.replicas → l.count ≡ length plan.cells
    → Filled MAX_CELLS (cell_in state l.replica) (pos 0) l.initial.cells l.cells l.cell
