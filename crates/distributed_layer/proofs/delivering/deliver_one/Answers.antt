use Rattle.std.proofs.Common.{Bool, cond, Option, Some, None, pos, refl, ap, ◌∙◌, arith}
use Rattle.rcp_base.specs.Message.{Content}
use Rattle.rcp_model.specs.Messages.{Letter}
use Rattle.replica_parts.specs.Places.{letter_in}
use Rattle.distributed_layer.proofs.DeliverLemmas.{none_came, one_came}
use Rattle.distributed_layer.proofs.LoopLemmas.{shown_after}
use Rattle.distributed_layer.proofs.delivering.deliver_one.Goals as goal

pub deliver_at-requires-clause-show : goal.deliver_at-requires-clause-show
deliver_at-requires-clause-show c =
    let can = c.requires.can in
    let size = can.2.of_plan.replicas in (
      can.0,
      c.args.input.now,
      can.1,
      can.2.show,
      omega (arith, c.requires.sender, size),
      c.requires.place ∙ can.2.of_plan.cells,
    )

pub returns-then-comes : goal.returns-then-comes
returns-then-comes c = λ plan seats frame window show.
    let rows = c.args.input.now in
    let sent : Letter = record { arrival = pos 0; message = c.args.place.now.message } in
    let came : Bool → Option Content = λ b. cond b (Some c.args.place.now.message) None in
    one_came plan c.args.setting.now rows c.deliver_at.new.phases.items frame c.args.receiver
    c.args.sender seats (letter_in c.args.place.now) sent
    (c.comes.ensures plan frame rows c.args.receiver window ∙ ap came c.if-comes.true)
    (shown_after plan c.args.setting.now rows _ c.deliver_at.new.phases.items seats _ show
    c.deliver_at.ensures.size (c.deliver_at.ensures.show plan rows seats sent show.show refl))

pub returns-else-comes : goal.returns-else-comes
returns-else-comes c = λ plan seats frame window show.
    let rows = c.args.input.now in
    let came : Bool → Option Content = λ b. cond b (Some c.args.place.now.message) None in
    none_came plan c.args.setting.now rows c.args.phases.now.items frame c.args.receiver
    c.args.sender seats (letter_in c.args.place.now)
    (c.comes.ensures plan frame rows c.args.receiver window ∙ ap came c.if-comes.false) show
