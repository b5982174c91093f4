use Rattle.rcp_model.specs.declared.plan.PlanParts.{PlanParts}
use Rattle.phase_machine.specs.Seats.{Decided, Seat, synced_seat}
use Rattle.distributed_layer.specs.inner.Amid.{AreUpAt, ShowSeats}
use Rattle.distributed_layer.proofs.LoopLemmas.{so_far}
use Rattle.std.proofs.Common.{ℕ}
use Rattle.distributed_layer.proofs.stepping.all_sync.Given as goal

abbrev pub invariant-loop-replica : goal.invariant-loop-replica
invariant-loop-replica l = record {
  seats : (plan : PlanParts) (seats : ℕ → Seat) → AreUpAt plan l.input Decided seats
      → ShowSeats plan l.setting l.input l.initial.phases.items seats
      → ShowSeats plan l.setting l.input l.phases.items
      (so_far plan l.setting l.input (λ replica. synced_seat plan) seats l.replica);
}
