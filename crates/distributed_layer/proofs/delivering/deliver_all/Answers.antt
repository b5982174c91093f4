use Rattle.std.proofs.Common.{ℕ, Option, ap, ◌∙◌, arith}
use Rattle.mailbox.specs.Mailboxes.{put}
use Rattle.phase_machine.specs.Seats.{Seat}
use Rattle.rcp_model.specs.Messages.{Letter}
use Rattle.replica_parts.specs.Places.{post_at}
use Rattle.distributed_layer.specs.Together.{all_filled, filled_seat}
use Rattle.distributed_layer.proofs.DeliverLemmas.{row_here}
use Rattle.distributed_layer.proofs.LoopLemmas.{below, below_more, below_new, below_old, seats_agree}
use Rattle.distributed_layer.proofs.delivering.deliver_all.Goals as goal

pub deliver_row-requires-clause-can : goal.deliver_row-requires-clause-can
deliver_row-requires-clause-can c =
    let can = c.requires.can in
    (can.0, _, c.loop-receiver.invariant.seats can.0 can.1 can.2)

pub loop-receiver-preserved : goal.loop-receiver-preserved
loop-receiver-preserved c = record {
  seats = λ plan seats show.
      let n = c.loop-receiver.receiver in
      let rows = c.args.input.now in
      let after = all_filled plan c.args.frame rows (post_at c.args.letters.now) seats in
      let size = c.requires.letters.size in
      let row = c.index-letters-receiver.result in
      seats_agree plan c.args.setting.now rows c.deliver_row.new.phases.items _ _ (λ k _.
      ap (λ (seat : Seat). put (below n after seats) n seat k)
      (ap (λ (letters : ℕ → Option Letter).
      filled_seat plan c.args.frame rows n letters (below n after seats n))
      (row_here c.args.letters.now n row c.as_slice.result.now
      (omega (arith, c.loop-receiver-test.true, c.replicas-receiver-end.ensures, size))
      c.index-letters-receiver.is c.as_slice.ensures.value)
      ∙ ap (filled_seat plan c.args.frame rows n (post_at c.args.letters.now n))
      (below_old n after seats n (omega arith)))
      ∙ below_more n after seats k)
      (c.deliver_row.ensures plan _ (c.loop-receiver.invariant.seats plan seats show));
}

pub returns : goal.returns
returns c = λ plan seats show.
    let n = c.loop-receiver.receiver in
    let after = all_filled plan c.args.frame c.args.input.now (post_at c.args.letters.now) seats in
    let e = show.of_plan.replicas in
    seats_agree plan c.args.setting.now c.args.input.now c.loop-receiver.phases.items _ _ (λ k lt.
    below_new n after seats k
    (omega (arith, lt, e, c.loop-receiver-test.false, c.replicas-receiver-end.ensures)))
    (c.loop-receiver.invariant.seats plan seats show)
