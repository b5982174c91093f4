use Rattle.std.proofs.Common.{ℕ, sym, ◌∙◌, arith}
use Rattle.phase_machine.specs.Seats.{Seat, synced_seat}
use Rattle.distributed_layer.proofs.LoopLemmas.{down_is, not_taken, taken, up_is}
use Rattle.distributed_layer.proofs.turns.sync_up.Goals as goal

pub sync_at-requires-clause-show : goal.sync_at-requires-clause-show
sync_at-requires-clause-show c =
    let can = c.requires.can in
    (can.0, can.1, can.3.show, can.3.frame)

pub returns-then-not-down : goal.returns-then-not-down
returns-then-not-down c = λ plan seats at show.
    let step : ℕ → Seat → Seat = λ _. synced_seat plan in
    let up =
    up_is plan c.args.input.now c.args.replica
    (omega (arith, c.requires.replica, show.of_plan.replicas))
    (sym c.down.ensures ∙ c.if-not-down.true) in
    taken plan c.args.setting.now c.args.input.now step seats c.args.replica c.args.phases.now.items
    show c.sync_at.new.phases.items up c.sync_at.ensures.size
    (c.sync_at.ensures.show plan seats show.show (at up))

pub returns-else-not-down : goal.returns-else-not-down
returns-else-not-down c = λ plan seats at show.
    let step : ℕ → Seat → Seat = λ _. synced_seat plan in
    not_taken plan c.args.setting.now c.args.input.now step seats c.args.replica
    c.args.phases.now.items show
    (down_is plan c.args.input.now c.args.replica (sym c.down.ensures ∙ c.if-not-down.false))
