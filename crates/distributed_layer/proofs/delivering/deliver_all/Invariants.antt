use Rattle.rcp_model.specs.declared.plan.PlanParts.{PlanParts}
use Rattle.phase_machine.specs.Seats.{Seat}
use Rattle.replica_parts.specs.Places.{post_at}
use Rattle.distributed_layer.specs.inner.Amid.{ShowSeats}
use Rattle.distributed_layer.specs.Together.{all_filled}
use Rattle.distributed_layer.proofs.LoopLemmas.{below}
use Rattle.std.proofs.Common.{ℕ}
use Rattle.distributed_layer.proofs.delivering.deliver_all.Given as goal

abbrev pub invariant-loop-receiver : goal.invariant-loop-receiver
invariant-loop-receiver l = record {
  seats : (plan : PlanParts) (seats : ℕ → Seat)
      → ShowSeats plan l.setting l.input l.initial.phases.items seats
      → ShowSeats plan l.setting l.input l.phases.items
      (below l.receiver (all_filled plan l.frame l.input (post_at l.letters) seats) seats);
}
