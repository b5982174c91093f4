use Rattle.rcp_model.specs.declared.plan.PlanParts.{PlanParts}
use Rattle.rcp_model.specs.Messages.{is_up, is_voted}
use Rattle.vote_pattern.specs.Votes.{is_in}
use Rattle.phase_machine.specs.Seats.{Computed, Seat, own_now, sent_seat}
use Rattle.replica_parts.specs.Rooms.{AreMessages}
use Rattle.distributed_layer.specs.inner.Amid.{AreUpAt, ShowSeats}
use Rattle.distributed_layer.proofs.LoopLemmas.{so_far}
use Rattle.distributed_layer.proofs.SendLemmas.{HaveSaid}
use Rattle.std.proofs.Common.{◌≡◌, ℕ}
use Rattle.distributed_layer.proofs.stepping.all_send.Given as goal

abbrev pub invariant-loop-replica : goal.invariant-loop-replica
invariant-loop-replica l = record {
  seats : (plan : PlanParts) (seats : ℕ → Seat) → is_in l.votes ≡ is_voted plan
      → AreUpAt plan l.input Computed seats
      → ShowSeats plan l.setting l.input l.initial.phases.items seats
      → ShowSeats plan l.setting l.input l.phases.items
      (so_far plan l.setting l.input (λ replica. sent_seat plan) seats l.replica);
  own : (plan : PlanParts) (seats : ℕ → Seat) → is_in l.votes ≡ is_voted plan
      → AreUpAt plan l.input Computed seats
      → ShowSeats plan l.setting l.input l.initial.phases.items seats
      → HaveSaid (is_up plan l.input) (λ replica. own_now plan (seats replica)) l.own.items
      l.replica;
  room : AreMessages l.setting l.own.items;
}
