use Rattle.rcp_base.specs.Filling.{Filled}
use Rattle.rcp_base.specs.Message.{Content}
use Rattle.replica_parts.specs.inner.Slots.{IsSlotNumber}
use Rattle.replica_parts.specs.Places.{message_at}
use Rattle.std.proofs.Common.{None, get_or, option_map, pos, ℕ, ◌<◌}
use Rattle.std.specs.Prelude.{IfSome}
use Rattle.replica_parts.proofs.voting.name_slots.Given as goal

abbrev pub invariant-loop-sender : goal.invariant-loop-sender
invariant-loop-sender l = record {
  slots : Filled l.setting.replicas (λ (sender : ℕ). option_map (λ (message : Content). pos message.slot) (message_at l.heard sender)) None l.initial.places.items l.places.items l.sender;
  small : (k : ℕ) → k < l.sender → IfSome (get_or l.places.items k None) IsSlotNumber;
}
