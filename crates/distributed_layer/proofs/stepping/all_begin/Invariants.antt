use Rattle.frame_table.specs.Plan.{IsOf}
use Rattle.rcp_model.specs.declared.plan.PlanParts.{PlanParts}
use Rattle.phase_machine.specs.Seats.{Seat, Waiting, begun_seat}
use Rattle.distributed_layer.specs.inner.Amid.{AreUpAt, ShowSeats}
use Rattle.distributed_layer.proofs.LoopLemmas.{so_far}
use Rattle.std.proofs.Common.{◌≡◌, ℕ}
use Rattle.distributed_layer.proofs.stepping.all_begin.Given as goal

abbrev pub invariant-loop-replica : goal.invariant-loop-replica
invariant-loop-replica l = record {
  seats : (plan : PlanParts) (seats : ℕ → Seat) → IsOf plan l.initial.table
      → AreUpAt plan l.input Waiting seats
      → ShowSeats plan l.setting l.input l.initial.phases.items seats
      → ShowSeats plan l.setting l.input l.phases.items
      (so_far plan l.setting l.input (λ replica. begun_seat plan l.input) seats l.replica);
  kept : l.table ≡ l.initial.table;
}
