use Rattle.std.proofs.Common.{ℕ, sym, subst, ◌∙◌, arith}
use Rattle.frame_table.specs.Plan.{IsOf}
use Rattle.phase_machine.specs.Seats.{Seat, Told, voted_seat}
use Rattle.distributed_layer.proofs.LoopLemmas.{all_done, next, so_far, stage_here}
use Rattle.distributed_layer.proofs.stepping.all_vote.Goals as goal

pub vote_up-requires-clause-can : goal.vote_up-requires-clause-can
vote_up-requires-clause-can c =
    let can = c.requires.can in
    let n = c.loop-replica.replica in
    let step : ℕ → Seat → Seat = voted_seat can.0 in (
      can.0,
      so_far can.0 c.args.setting.now c.args.input.now step can.1 n,
      subst (IsOf can.0) (sym c.loop-replica.invariant.kept) can.2,
      can.3,
      stage_here can.0 c.args.setting.now c.args.input.now step can.1 Told n can.4,
      c.loop-replica.invariant.seats can.0 can.1 can.2 can.3 can.4 can.5,
    )

pub loop-replica-preserved : goal.loop-replica-preserved
loop-replica-preserved c = record {
  seats = λ plan seats code votes at show.
      let n = c.loop-replica.replica in
      let setting = c.args.setting.now in
      let rows = c.args.input.now in
      let step : ℕ → Seat → Seat = voted_seat plan in
      next plan setting rows step seats c.vote_up.new.phases.items n
      (c.vote_up.ensures.seats plan (so_far plan setting rows step seats n)
      (subst (IsOf plan) (sym c.loop-replica.invariant.kept) code)
      votes
      (stage_here plan setting rows step seats Told n at)
      (c.loop-replica.invariant.seats plan seats code votes at show));
  kept = c.vote_up.ensures.table ∙ c.loop-replica.invariant.kept;
}

pub returns-clause-seats : goal.returns-clause-seats
returns-clause-seats c = λ plan seats code votes at show.
    let step : ℕ → Seat → Seat = voted_seat plan in
    let size = show.of_plan.replicas in
    all_done plan c.args.setting.now c.args.input.now step seats c.loop-replica.phases.items
    c.loop-replica.replica
    (omega (arith, c.loop-replica-test.false, c.replicas-replica-end.ensures, size))
    (c.loop-replica.invariant.seats plan seats code votes at show)
