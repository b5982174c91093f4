use Rattle.std.proofs.Common.{◌<◌, ℕ, ap, ◌∙◌, arith}
use Rattle.rcp_model.specs.Messages.{is_up}
use Rattle.phase_machine.specs.Seats.{Computed, Seat, own_now, sent_seat}
use Rattle.distributed_layer.proofs.LoopLemmas.{all_done, here, next, so_far, stage_here, up_below}
use Rattle.distributed_layer.proofs.SendLemmas.{room_kept, said_next}
use Rattle.distributed_layer.proofs.stepping.all_send.Goals as goal

pub send_up-requires-clause-can : goal.send_up-requires-clause-can
send_up-requires-clause-can c =
    let can = c.requires.can in
    let n = c.loop-replica.replica in
    let setting = c.args.setting.now in
    let step : ℕ → Seat → Seat = λ _. sent_seat can.0 in
    let before = c.loop-replica.invariant.seats can.0 can.1 can.2 can.3 can.4 in
    let stage = stage_here can.0 setting c.args.input.now step can.1 Computed n can.3 in
    (can.0, so_far can.0 setting c.args.input.now step can.1 n, can.2, stage, before)

pub loop-replica-preserved : goal.loop-replica-preserved
loop-replica-preserved c = record {
  seats = λ plan seats votes at show.
      let n = c.loop-replica.replica in
      let rows = c.args.input.now in
      let step : ℕ → Seat → Seat = λ _. sent_seat plan in
      next plan c.args.setting.now rows step seats c.send_up.new.phases.items n
      (c.send_up.ensures.seats plan (so_far plan c.args.setting.now rows step seats n)
      votes (stage_here plan c.args.setting.now rows step seats Computed n at)
      (c.loop-replica.invariant.seats plan seats votes at show));
  own = λ plan seats votes at show.
      let n = c.loop-replica.replica in
      let setting = c.args.setting.now in
      let rows = c.args.input.now in
      let step : ℕ → Seat → Seat = λ _. sent_seat plan in
      let room = c.loop-replica.invariant.room.size in
      said_next (is_up plan rows) (λ k. own_now plan (seats k)) _ n c.send_up.new.own
      (omega (arith, c.loop-replica-test.true, c.replicas-replica-end.ensures, room))
      (c.loop-replica.invariant.own plan seats votes at show)
      (λ up.
      c.send_up.ensures.own plan (so_far plan setting rows step seats n) votes
      (stage_here plan setting rows step seats Computed n at)
      (c.loop-replica.invariant.seats plan seats votes at show) up
      ∙ ap (own_now plan) (here plan setting rows step seats n));
  room =
      room_kept c.args.setting.now c.loop-replica.own.items c.loop-replica.replica
      c.send_up.new.own c.loop-replica.invariant.room c.send_up.ensures.room;
}

pub returns-clause-seats : goal.returns-clause-seats
returns-clause-seats c = λ plan seats votes at show.
    let step : ℕ → Seat → Seat = λ _. sent_seat plan in
    let size = show.of_plan.replicas in
    all_done plan c.args.setting.now c.args.input.now step seats _ c.loop-replica.replica
    (omega (arith, c.loop-replica-test.false, c.replicas-replica-end.ensures, size))
    (c.loop-replica.invariant.seats plan seats votes at show)

pub returns-clause-own : goal.returns-clause-own
returns-clause-own c = λ plan seats votes at show replica up.
    let lt : replica < plan.replicas = up_below plan c.args.input.now replica up in
    let size = show.of_plan.replicas in
    c.loop-replica.invariant.own plan seats votes at show replica
    (omega (arith, lt, size, c.loop-replica-test.false, c.replicas-replica-end.ensures)) up
