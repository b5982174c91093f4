use Rattle.clock_model.proofs.OrderLemmas.{two_windows}
use Rattle.clock_model.proofs.laws.messages_meet_two_windows.Goals as goal

pub returns : goal.returns
returns c = two_windows
