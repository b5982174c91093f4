use Rattle.std.proofs.Common.{rules}
use Rattle.rcp_model.specs.RowWrites.{with_skew}
use Rattle.rcp_model.proofs.FrameOfLaws.{skew_kept}
use Rattle.layer_stack.proofs.frame_in.FrameIn.set_skew.Goals as goal

pub returns-clause-row : goal.returns-clause-row
unfolding with_skew
returns-clause-row c = search rules

pub returns-clause-of_plan : goal.returns-clause-of_plan
returns-clause-of_plan c plan h within = rw (returns-clause-row c) (skew_kept plan c.args.self.now h c.args.replica c.args.ticks c.requires within)
