use Rattle.rcp_base.proofs.FillLaws.{filled_all}
use Rattle.layer_stack.specs.Streaks.{streaks_after}
use Rattle.layer_stack.proofs.streaks.count_frame.Goals as goal

pub returns : goal.returns
unfolding streaks_after
returns c = filled_all _ _ 0 _ _ c.loop-replica.replica c.loop-replica.invariant (let e = c.loop-replica-test.false in rw (← c.parts.ensures.parts) e)
