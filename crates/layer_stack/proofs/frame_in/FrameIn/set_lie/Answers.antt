use Rattle.std.proofs.Common.{rules}
use Rattle.rcp_model.specs.RowWrites.{with_lie}
use Rattle.rcp_model.proofs.FrameOfLaws.{lie_kept}
use Rattle.layer_stack.proofs.frame_in.FrameIn.set_lie.Goals as goal

pub returns-clause-row : goal.returns-clause-row
unfolding with_lie
returns-clause-row c = search rules

pub returns-clause-of_plan : goal.returns-clause-of_plan
returns-clause-of_plan c plan h ne = rw (returns-clause-row c) (lie_kept plan c.args.self.now h c.args.from c.args.to c.args.cell c.args.value c.requires.from c.requires.to c.requires.cell ne)
