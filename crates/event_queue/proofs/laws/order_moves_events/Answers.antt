use Rattle.event_queue.proofs.TurnLaws.{in_turn_turn, in_turn_permutes}
use Rattle.event_queue.proofs.laws.order_moves_events.Goals as goal

pub returns : goal.returns
returns c = λ events. (in_turn_turn events, in_turn_permutes events)
