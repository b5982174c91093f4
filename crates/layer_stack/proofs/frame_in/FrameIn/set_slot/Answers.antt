use Rattle.std.proofs.Common.{rules}
use Rattle.rcp_model.specs.RowWrites.{with_slot}
use Rattle.rcp_model.proofs.FrameOfLaws.{slot_kept}
use Rattle.layer_stack.proofs.frame_in.FrameIn.set_slot.Goals as goal

pub returns-clause-row : goal.returns-clause-row
unfolding with_slot
returns-clause-row c = search rules

pub returns-clause-of_plan : goal.returns-clause-of_plan
returns-clause-of_plan c plan h lt = rw (returns-clause-row c) (slot_kept plan c.args.self.now h c.args.replica c.args.slot c.requires lt)
