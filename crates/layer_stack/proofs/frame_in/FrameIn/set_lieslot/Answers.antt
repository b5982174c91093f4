use Rattle.std.proofs.Common.{rules}
use Rattle.rcp_model.specs.RowWrites.{with_lie_slot}
use Rattle.rcp_model.proofs.FrameOfLaws.{lie_slot_kept}
use Rattle.layer_stack.proofs.frame_in.FrameIn.set_lieslot.Goals as goal

pub returns-clause-row : goal.returns-clause-row
unfolding with_lie_slot
returns-clause-row c = search rules

pub returns-clause-of_plan : goal.returns-clause-of_plan
returns-clause-of_plan c plan h ne lt = rw (returns-clause-row c) (lie_slot_kept plan c.args.self.now h c.args.from c.args.to c.args.slot c.requires.from c.requires.to ne lt)
