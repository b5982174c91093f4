use Rattle.std.proofs.Common.{ℕ, sym, subst, ◌∙◌, arith}
use Rattle.frame_table.specs.Plan.{IsOf}
use Rattle.phase_machine.specs.Seats.{Seat, Waiting, begun_seat}
use Rattle.distributed_layer.proofs.LoopLemmas.{all_done, next, so_far, stage_here}
use Rattle.distributed_layer.proofs.stepping.all_begin.Goals as goal

pub begin_up-requires-clause-can : goal.begin_up-requires-clause-can
begin_up-requires-clause-can c =
    let can = c.requires.can in
    let n = c.loop-replica.replica in
    let step : ℕ → Seat → Seat = λ _. begun_seat can.0 c.args.input.now in (
      can.0,
      so_far can.0 c.args.setting.now c.args.input.now step can.1 n,
      subst (IsOf can.0) (sym c.loop-replica.invariant.kept) can.2,
      stage_here can.0 c.args.setting.now c.args.input.now step can.1 Waiting n can.3,
      c.loop-replica.invariant.seats can.0 can.1 can.2 can.3 can.4,
    )

pub loop-replica-preserved : goal.loop-replica-preserved
loop-replica-preserved c = record {
  seats = λ plan seats code at show.
      let n = c.loop-replica.replica in
      let setting = c.args.setting.now in
      let rows = c.args.input.now in
      let step : ℕ → Seat → Seat = λ _. begun_seat plan rows in
      next plan setting rows step seats c.begin_up.new.phases.items n
      (c.begin_up.ensures.seats plan (so_far plan setting rows step seats n)
      (subst (IsOf plan) (sym c.loop-replica.invariant.kept) code)
      (stage_here plan setting rows step seats Waiting n at)
      (c.loop-replica.invariant.seats plan seats code at show));
  kept = c.begin_up.ensures.table ∙ c.loop-replica.invariant.kept;
}

pub returns-clause-seats : goal.returns-clause-seats
returns-clause-seats c = λ plan seats code at show.
    let step : ℕ → Seat → Seat = λ _. begun_seat plan c.args.input.now in
    let size = show.of_plan.replicas in
    all_done plan c.args.setting.now c.args.input.now step seats c.loop-replica.phases.items
    c.loop-replica.replica
    (omega (arith, c.loop-replica-test.false, c.replicas-replica-end.ensures, size))
    (c.loop-replica.invariant.seats plan seats code at show)
