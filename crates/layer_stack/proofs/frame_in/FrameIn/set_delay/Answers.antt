use Rattle.std.proofs.Common.{rules}
use Rattle.rcp_model.specs.RowWrites.{with_delay}
use Rattle.rcp_model.proofs.FrameOfLaws.{delay_kept}
use Rattle.layer_stack.proofs.frame_in.FrameIn.set_delay.Goals as goal

pub returns-clause-row : goal.returns-clause-row
unfolding with_delay
returns-clause-row c = search rules

pub returns-clause-of_plan : goal.returns-clause-of_plan
returns-clause-of_plan c plan h ne within = rw (returns-clause-row c) (delay_kept plan c.args.self.now h c.args.from c.args.to c.args.ticks c.requires.from c.requires.to ne within)
