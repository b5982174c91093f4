use Rattle.clocked_layer.proofs.Ways.{goes_on_by}
use Rattle.clocked_layer.proofs.laws.every_due_event_goes_on.Goals as goal

pub returns : goal.returns
returns c plan state rows boxes log event way due =
    goes_on_by plan state rows boxes log way event due
