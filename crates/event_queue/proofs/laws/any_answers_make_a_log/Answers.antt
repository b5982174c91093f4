use Rattle.event_queue.proofs.PickLaws.{picked_log}
use Rattle.event_queue.proofs.laws.any_answers_make_a_log.Goals as goal

pub returns : goal.returns
returns c = picked_log
