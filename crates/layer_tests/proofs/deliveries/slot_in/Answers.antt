use Rattle.std.proofs.Common.{inr}
use Rattle.layer_tests.proofs.deliveries.slot_in.Goals as goal

pub box_slot-requires : goal.box_slot-requires
box_slot-requires g c =
    let is = c.requires.runs in
    (c.args.plan.now, inr (c.args.input.now, is.0, is.1), c.requires.to, c.requires.from)
