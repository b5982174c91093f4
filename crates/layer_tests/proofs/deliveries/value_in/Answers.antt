use Rattle.std.proofs.Common.{inr}
use Rattle.layer_tests.proofs.deliveries.value_in.Goals as goal

pub box_value-requires : goal.box_value-requires
box_value-requires g c =
    let is = c.requires.runs in
    (c.args.plan.now, inr (c.args.input.now, is.0, is.1), c.requires.to, c.requires.from, c.requires.cell)
