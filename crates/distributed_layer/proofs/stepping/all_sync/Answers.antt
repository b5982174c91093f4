use Rattle.std.proofs.Common.{ℕ, arith}
use Rattle.phase_machine.specs.Seats.{Decided, Seat, synced_seat}
use Rattle.distributed_layer.proofs.LoopLemmas.{all_done, next, so_far, stage_here}
use Rattle.distributed_layer.proofs.stepping.all_sync.Goals as goal

pub sync_up-requires-clause-can : goal.sync_up-requires-clause-can
sync_up-requires-clause-can c =
    let can = c.requires.can in
    let n = c.loop-replica.replica in
    let step : ℕ → Seat → Seat = λ _. synced_seat can.0 in (
      can.0,
      so_far can.0 c.args.setting.now c.args.input.now step can.1 n,
      stage_here can.0 c.args.setting.now c.args.input.now step can.1 Decided n can.2,
      c.loop-replica.invariant.seats can.0 can.1 can.2 can.3,
    )

pub loop-replica-preserved : goal.loop-replica-preserved
loop-replica-preserved c = record {
  seats = λ plan seats at show.
      let n = c.loop-replica.replica in
      let setting = c.args.setting.now in
      let rows = c.args.input.now in
      let step : ℕ → Seat → Seat = λ _. synced_seat plan in
      next plan setting rows step seats c.sync_up.new.phases.items n
      (c.sync_up.ensures plan (so_far plan setting rows step seats n)
      (stage_here plan setting rows step seats Decided n at)
      (c.loop-replica.invariant.seats plan seats at show));
}

pub returns : goal.returns
returns c = λ plan seats at show.
    let step : ℕ → Seat → Seat = λ _. synced_seat plan in
    let size = show.of_plan.replicas in
    all_done plan c.args.setting.now c.args.input.now step seats c.loop-replica.phases.items
    c.loop-replica.replica
    (omega (arith, c.loop-replica-test.false, c.replicas-replica-end.ensures, size))
    (c.loop-replica.invariant.seats plan seats at show)
