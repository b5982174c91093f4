use Rattle.std.proofs.Common.{sym}
use Rattle.event_queue.proofs.TurnLaws.{taken_at}
use Rattle.event_queue.proofs.laws.events_leave_their_place.Goals as goal

pub returns : goal.returns
returns c = λ left place other turn within. sym (taken_at left place other turn within)
