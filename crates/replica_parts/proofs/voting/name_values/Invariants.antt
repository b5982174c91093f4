use Rattle.rcp_base.specs.Filling.{Filled}
use Rattle.rcp_base.specs.Message.{value_in}
use Rattle.replica_parts.specs.Places.{message_at}
use Rattle.std.proofs.Common.{None, ℕ}
use Rattle.std.specs.Option.{option_and_then}
use Rattle.replica_parts.proofs.voting.name_values.Given as goal

abbrev pub invariant-loop-sender : goal.invariant-loop-sender
invariant-loop-sender l = Filled l.setting.replicas (λ (sender : ℕ). option_and_then (λ message. value_in message l.cell) (message_at l.heard sender)) None l.initial.places.items l.places.items l.sender
