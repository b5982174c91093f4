use Rattle.std.proofs.Common.{pos, arith}
use Rattle.rcp_base.specs.declared.TheConstants.{MAX_CELLS}
use Rattle.layer_stack.specs.Layer.{cell_in}
use Rattle.rcp_top.proofs.ReplayLemmas.{first_places}
use Rattle.rcp_top.proofs.replay_text.cells_of.Goals as goal

pub returns : goal.returns
returns g c plan state at below count =
    first_places c.args.count MAX_CELLS (cell_in state c.args.replica) (pos 0) _ c.loop-cell.cells c.loop-cell.cell
    (c.loop-cell.invariant plan state at below count) (omega (arith, c.loop-cell-test.false)) c.requires.few
