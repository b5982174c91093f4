use Rattle.std.proofs.Common.{arith, ap}
use Rattle.rcp_model.specs.FrameRows.{FrameRows}
use Rattle.layer_stack.specs.FrameFields.{rows_in}
use Rattle.layer_stack.proofs.FrameLemmas.{lie_is}
use Rattle.layer_stack.proofs.frame_in.FrameIn.lie.Goals as goal

pub returns : goal.returns
returns c =
    let replicas = ap (λ (rows : FrameRows). rows.replicas) c.self.view_is in
    let cells = ap (λ (rows : FrameRows). rows.cells) c.self.view_is in
    rw (← c.self.view_is)
    (lie_is (rows_in c.self.inside) _ _ _ _ c.self.invariant.tables
    (omega (arith, replicas)) (omega (arith, replicas)) (omega (arith, cells)) c.index.ensures)
