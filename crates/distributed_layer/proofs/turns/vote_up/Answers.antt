use Rattle.std.proofs.Common.{ℕ, sym, ◌∙◌, arith}
use Rattle.phase_machine.specs.Seats.{Seat, voted_seat}
use Rattle.distributed_layer.proofs.LoopLemmas.{down_is, not_taken, taken, up_is}
use Rattle.distributed_layer.proofs.turns.vote_up.Goals as goal

pub vote_at-requires-clause-show : goal.vote_at-requires-clause-show
vote_at-requires-clause-show c =
    let can = c.requires.can in
    (can.0, can.1, can.5.show)

pub returns-then-not-down-clause-seats : goal.returns-then-not-down-clause-seats
returns-then-not-down-clause-seats c = λ plan seats code votes at show.
    let step : ℕ → Seat → Seat = voted_seat plan in
    let up =
    up_is plan c.args.input.now c.args.replica
    (omega (arith, c.requires.replica, show.of_plan.replicas))
    (sym c.down.ensures ∙ c.if-not-down.true) in
    taken plan c.args.setting.now c.args.input.now step seats c.args.replica c.args.phases.now.items
    show c.vote_at.new.phases.items up c.vote_at.ensures.size
    (c.vote_at.ensures.show plan seats show.show (at up) code votes)

pub returns-else-not-down-clause-seats : goal.returns-else-not-down-clause-seats
returns-else-not-down-clause-seats c = λ plan seats code votes at show.
    let step : ℕ → Seat → Seat = voted_seat plan in
    not_taken plan c.args.setting.now c.args.input.now step seats c.args.replica
    c.args.phases.now.items show
    (down_is plan c.args.input.now c.args.replica (sym c.down.ensures ∙ c.if-not-down.false))
