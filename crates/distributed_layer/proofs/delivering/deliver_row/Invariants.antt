use Rattle.rcp_model.specs.declared.plan.PlanParts.{PlanParts}
use Rattle.mailbox.specs.Mailboxes.{put}
use Rattle.phase_machine.specs.Seats.{Seat}
use Rattle.replica_parts.specs.Places.{letter_at}
use Rattle.distributed_layer.specs.inner.Amid.{ShowSeats}
use Rattle.distributed_layer.proofs.DeliverLemmas.{filled_so_far}
use Rattle.std.proofs.Common.{ℕ}
use Rattle.distributed_layer.proofs.delivering.deliver_row.Given as goal

abbrev pub invariant-loop-sender : goal.invariant-loop-sender
invariant-loop-sender l = record {
  seats : (plan : PlanParts) (seats : ℕ → Seat)
      → ShowSeats plan l.setting l.input l.initial.phases.items seats
      → ShowSeats plan l.setting l.input l.phases.items (put seats l.receiver
      (filled_so_far plan l.frame l.input l.receiver (letter_at l.letters) (seats l.receiver)
      l.sender));
}
