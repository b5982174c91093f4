use Rattle.std.proofs.Common.{ℕ, sym, ◌∙◌, arith, length, ap}
use Rattle.rcp_base.specs.Message.{Content}
use Rattle.phase_machine.specs.Seats.{Seat, sent_seat}
use Rattle.distributed_layer.proofs.LoopLemmas.{down_is, not_taken, taken, up_is}
use Rattle.distributed_layer.proofs.SendLemmas.{own_room}
use Rattle.distributed_layer.proofs.turns.send_up.Goals as goal

pub send_at-requires-clause-show : goal.send_at-requires-clause-show
send_at-requires-clause-show c =
    let can = c.requires.can in
    (can.0, c.args.input.now, can.1, can.4.show, c.requires.room ∙ can.4.of_plan.cells)

pub returns-then-not-down-clause-seats : goal.returns-then-not-down-clause-seats
returns-then-not-down-clause-seats c = λ plan seats votes at show.
    let step : ℕ → Seat → Seat = λ _. sent_seat plan in
    let up =
    up_is plan c.args.input.now c.args.replica
    (omega (arith, c.requires.replica, show.of_plan.replicas))
    (sym c.down.ensures ∙ c.if-not-down.true) in
    taken plan c.args.setting.now c.args.input.now step seats c.args.replica c.args.phases.now.items
    show c.send_at.new.phases.items up c.send_at.ensures.size
    (c.send_at.ensures.show plan c.args.input.now seats show.show (at up) votes)

pub returns-else-not-down-clause-seats : goal.returns-else-not-down-clause-seats
returns-else-not-down-clause-seats c = λ plan seats votes at show.
    let step : ℕ → Seat → Seat = λ _. sent_seat plan in
    not_taken plan c.args.setting.now c.args.input.now step seats c.args.replica
    c.args.phases.now.items show
    (down_is plan c.args.input.now c.args.replica (sym c.down.ensures ∙ c.if-not-down.false))

pub returns-then-not-down-clause-own : goal.returns-then-not-down-clause-own
returns-then-not-down-clause-own c = λ plan seats votes at show up.
    c.send_at.ensures.out plan c.args.input.now seats show.show (at up) votes

pub returns-then-not-down-clause-room : goal.returns-then-not-down-clause-room
returns-then-not-down-clause-room c =
    let can = c.requires.can in
    let up =
    up_is can.0 c.args.input.now c.args.replica
    (omega (arith, c.requires.replica, can.4.of_plan.replicas))
    (sym c.down.ensures ∙ c.if-not-down.true) in
    ap (λ (message : Content). length message.values)
    (c.send_at.ensures.out can.0 c.args.input.now can.1 can.4.show (can.3 up) can.2)
    ∙ own_room can.0 c.args.setting.now (can.1 c.args.replica) can.4.of_plan
