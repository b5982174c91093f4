-- The journal tells what it told before.
use Rattle.top_tests.proofs.frames.begin_again.Goals as goal

pub begin-requires : goal.begin-requires
begin-requires c =
    let (history, is) = c.requires in
    (history, record { tells = c.rewind.ensures.tells c.args.plan.now history is.tells; history_of_plan = is.history_of_plan; start = c.rewind.ensures.done })
