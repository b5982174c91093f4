use Rattle.replica_parts.specs.inner.Agreement.{Agrees}
use Rattle.replica_parts.specs.Places.{message_at}
use Rattle.std.proofs.Common.{ℕ, ◌<◌}
use Rattle.std.specs.Prelude.{IfSome}
use Rattle.replica_parts.proofs.agreement.all_agree.Given as goal

abbrev pub invariant-loop-sender : goal.invariant-loop-sender
invariant-loop-sender l = (sender : ℕ) → sender < l.sender → IfSome (message_at l.heard sender) (Agrees l.slot l.computed)
