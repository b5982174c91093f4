use Rattle.std.proofs.Common.{arith}
use Rattle.rcp_model.specs.System.{initial_state}
use Rattle.layer_tests.proofs.phases.check_frame.Goals as goal

pub frame_of_both-requires : goal.frame_of_both-requires
unfolding initial_state
frame_of_both-requires g c =
    let plan = c.args.plan.now in
    (plan, initial_state plan, (c.requires.one, c.requires.other), c.in_ok-input.ensures.of_plan, omega arith)
