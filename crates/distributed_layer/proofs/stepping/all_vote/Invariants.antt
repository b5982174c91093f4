use Rattle.frame_table.specs.Plan.{IsOf}
use Rattle.rcp_model.specs.declared.plan.PlanParts.{PlanParts}
use Rattle.rcp_model.specs.Messages.{is_voted}
use Rattle.vote_pattern.specs.Votes.{is_in}
use Rattle.phase_machine.specs.Seats.{Seat, Told, voted_seat}
use Rattle.distributed_layer.specs.inner.Amid.{AreUpAt, ShowSeats}
use Rattle.distributed_layer.proofs.LoopLemmas.{so_far}
use Rattle.std.proofs.Common.{◌≡◌, ℕ}
use Rattle.distributed_layer.proofs.stepping.all_vote.Given as goal

abbrev pub invariant-loop-replica : goal.invariant-loop-replica
invariant-loop-replica l = record {
  seats : (plan : PlanParts) (seats : ℕ → Seat) → IsOf plan l.initial.table
      → is_in l.votes ≡ is_voted plan → AreUpAt plan l.input Told seats
      → ShowSeats plan l.setting l.input l.initial.phases.items seats
      → ShowSeats plan l.setting l.input l.phases.items
      (so_far plan l.setting l.input (voted_seat plan) seats l.replica);
  kept : l.table ≡ l.initial.table;
}
