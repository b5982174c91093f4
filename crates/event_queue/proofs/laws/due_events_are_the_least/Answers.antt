use Rattle.event_queue.proofs.DueLaws.{due_at, all_due}
use Rattle.event_queue.proofs.laws.due_events_are_the_least.Goals as goal

pub returns : goal.returns
returns c =
    λ left place other turn within.
    (λ below. (due_at left place other turn below).first, all_due left place other turn within)
