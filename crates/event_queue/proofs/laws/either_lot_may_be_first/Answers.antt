use Rattle.event_queue.proofs.TurnLaws.{either_first}
use Rattle.event_queue.proofs.laws.either_lot_may_be_first.Goals as goal

pub returns : goal.returns
returns c = either_first
