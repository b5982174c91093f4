use Rattle.std.proofs.Common.{Option, refl, subst, sym}
use Rattle.std.proofs.lemmas.Bool.{cond-true}
use Rattle.mailbox.specs.Mailboxes.{put}
use Rattle.phase_machine.specs.Phase.{AllShow}
use Rattle.phase_machine.specs.Seats.{got_seat}
use Rattle.rcp_model.specs.Messages.{Letter}
use Rattle.clocked_layer.proofs.machine.deliver_post.Goals as goal

pub returns-then-place-clause-shows : goal.returns-then-place-clause-shows
returns-then-place-clause-shows c plan rows seats shows =
    let letter : Letter = record {
      arrival = c.args.place.now.arrival;
      message = c.args.place.now.message;
    } in
    subst
    (λ (o : Option Letter). AllShow plan rows c.deliver_at.new.phases.items
    (put seats c.args.receiver (got_seat c.args.sender o (seats c.args.receiver))))
    (sym (cond-true _ _ _ c.if-place.true))
    (c.deliver_at.ensures.show plan rows seats letter shows refl)
