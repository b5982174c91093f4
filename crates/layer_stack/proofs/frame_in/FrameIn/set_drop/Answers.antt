use Rattle.std.proofs.Common.{rules}
use Rattle.rcp_model.specs.RowWrites.{with_drop}
use Rattle.rcp_model.proofs.FrameOfLaws.{drop_kept}
use Rattle.layer_stack.proofs.frame_in.FrameIn.set_drop.Goals as goal

pub returns-clause-row : goal.returns-clause-row
unfolding with_drop
returns-clause-row c = search rules

pub returns-clause-of_plan : goal.returns-clause-of_plan
returns-clause-of_plan c plan h ne = rw (returns-clause-row c) (drop_kept plan c.args.self.now h c.args.from c.args.to c.requires.from c.requires.to ne)
