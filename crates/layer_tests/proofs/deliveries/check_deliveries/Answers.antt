use Rattle.std.proofs.Common.{arith}
use Rattle.clocked_layer.specs.Stepped.{no_mail}
use Rattle.rcp_model.specs.System.{initial_state}
use Rattle.layer_tests.proofs.deliveries.check_deliveries.Goals as goal

pub open-requires : goal.open-requires
unfolding initial_state
open-requires g c =
    let plan = c.args.plan.now in
    record {
      ready = (plan, initial_state plan, (no_mail, c.requires.fresh), c.in_ok-input.ensures, omega arith);
    }

pub check_mailboxes-requires : goal.check_mailboxes-requires
check_mailboxes-requires g c =
    let plan = c.args.plan.now in
    record {
      runs = (_, c.open.ensures.block plan (initial_state plan) no_mail c.requires.fresh c.in_ok-input.ensures);
    }
