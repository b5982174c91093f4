use Rattle.std.proofs.Common.{rules}
use Rattle.rcp_model.specs.RowWrites.{with_act}
use Rattle.rcp_model.proofs.FrameOfLaws.{act_kept}
use Rattle.layer_stack.proofs.frame_in.FrameIn.set_act.Goals as goal

pub returns-clause-row : goal.returns-clause-row
unfolding with_act
returns-clause-row c = search rules

pub returns-clause-of_plan : goal.returns-clause-of_plan
returns-clause-of_plan c plan h = rw (returns-clause-row c) (act_kept plan c.args.self.now h c.args.replica c.args.actuator c.args.value c.requires.replica c.requires.actuator)
