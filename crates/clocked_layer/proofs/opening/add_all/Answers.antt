use Rattle.clocked_layer.proofs.AddingLemmas.{all_added}
use Rattle.clocked_layer.proofs.opening.add_all.Goals as goal

pub returns-clause-events : goal.returns-clause-events
returns-clause-events c plan state s at late =
    all_added plan state c.args.input.now c.args.frame c.args.agenda.now.left
    _ _ _ _ _ at
    (c.add_moment.ensures.events plan s)
    (c.add_moment-2.ensures.events plan s)
    (c.add_deliveries.ensures.events plan state s at late)
    (c.add_moment-3.ensures.events plan s)
    (c.add_moment-4.ensures.events plan s)
