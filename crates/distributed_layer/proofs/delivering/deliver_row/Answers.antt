use Rattle.std.proofs.Common.{sym, ap, ◌∙◌, arith}
use Rattle.mailbox.specs.Mailboxes.{put}
use Rattle.phase_machine.specs.Seats.{Seat}
use Rattle.replica_parts.specs.Places.{letter_at, letter_in}
use Rattle.distributed_layer.proofs.DeliverLemmas.{filled_all, filled_none, letter_here, more_came, none_past}
use Rattle.distributed_layer.proofs.LoopLemmas.{put_nothing, seats_agree}
use Rattle.distributed_layer.proofs.delivering.deliver_row.Goals as goal

pub loop-sender-init : goal.loop-sender-init
loop-sender-init c = record {
  seats = λ plan seats show.
      let letters = letter_at c.args.letters.now in
      seats_agree plan c.args.setting.now c.args.input.now _ seats _ (λ k _.
      sym (put_nothing seats c.args.receiver k)
      ∙ ap (λ (seat : Seat). put seats c.args.receiver seat k)
      (filled_none plan c.args.frame c.args.input.now c.args.receiver letters
      (seats c.args.receiver)))
      show;
}

pub deliver_one-requires-clause-can : goal.deliver_one-requires-clause-can
deliver_one-requires-clause-can c =
    let can = c.requires.can in
    (can.0, _, c.loop-sender.invariant.seats can.0 can.1 can.2)

pub loop-sender-preserved : goal.loop-sender-preserved
loop-sender-preserved c = record {
  seats = λ plan seats show.
      let n = c.loop-sender.sender in
      let letters = letter_at c.args.letters.now in
      let size = c.requires.letters.size in
      let place = c.index-letters-sender.result in
      more_came plan c.args.setting.now c.args.input.now c.deliver_one.new.phases.items
      c.args.frame c.args.receiver n seats letters n (letter_in place)
      (letter_here c.args.letters.now n place
      (omega (arith, c.loop-sender-test.true, c.replicas-sender-end.ensures, size))
      c.index-letters-sender.is)
      (c.deliver_one.ensures plan _ c.args.frame (c.new-window.ensures plan show.of_plan)
      (c.loop-sender.invariant.seats plan seats show));
}

pub returns : goal.returns
returns c = λ plan seats show.
    let letters = letter_at c.args.letters.now in
    let n = c.loop-sender.sender in
    let size = c.requires.letters.size in
    seats_agree plan c.args.setting.now c.args.input.now c.loop-sender.phases.items _ _ (λ k _.
    ap (λ (seat : Seat). put seats c.args.receiver seat k)
    (filled_all plan c.args.frame c.args.input.now c.args.receiver letters (seats c.args.receiver) n
    (λ i le. none_past c.args.letters.now i
    (omega (arith, le, c.loop-sender-test.false, c.replicas-sender-end.ensures, size)))))
    (c.loop-sender.invariant.seats plan seats show)
