-- The rows of the first frame have the initial values of the sensors.
use Rattle.top_tests.proofs.FrameLemmas.{can_begin}
use Rattle.top_tests.proofs.frames.begin.Goals as goal

pub returns : goal.returns
returns c =
    let (history, is) = c.requires in
    can_begin c.args.plan.now history c.args.journal.now c.new.result is c.new.ensures.rows c.new.ensures.of_plan
