use Rattle.std.proofs.Common.{subst, sym}
use Rattle.clocked_layer.specs.Block.{block_after_kind}
use Rattle.clocked_layer.specs.Machine.{ShowsBlock}
use Rattle.clocked_layer.specs.Way.{StageFor}
use Rattle.clocked_layer.proofs.machine.Machine.act.Goals as goal

pub returns-in-Begin : goal.returns-in-Begin
returns-in-Begin c plan block left shows stage =
    subst
    (λ k. ShowsBlock c.begin.new.self plan c.args.input.now
    (record (block_after_kind k plan c.args.input.now block c.args.event.now) { left = left }))
    (sym c.in-Begin.is)
    (c.begin.ensures plan block left shows
    (subst (λ k. StageFor k (block.seats c.args.event.now.replica).stage) c.in-Begin.is stage))

pub returns-in-Send : goal.returns-in-Send
returns-in-Send c plan block left shows stage =
    subst
    (λ k. ShowsBlock c.send.new.self plan c.args.input.now
    (record (block_after_kind k plan c.args.input.now block c.args.event.now) { left = left }))
    (sym c.in-Send.is)
    (c.send.ensures plan block left shows
    (subst (λ k. StageFor k (block.seats c.args.event.now.replica).stage) c.in-Send.is stage))

pub returns-in-Deliver : goal.returns-in-Deliver
returns-in-Deliver c plan block left shows stage =
    subst
    (λ k. ShowsBlock c.deliver.new.self plan c.args.input.now
    (record (block_after_kind k plan c.args.input.now block c.args.event.now) { left = left }))
    (sym c.in-Deliver.is)
    (c.deliver.ensures plan block left shows)

pub returns-in-Vote : goal.returns-in-Vote
returns-in-Vote c plan block left shows stage =
    subst
    (λ k. ShowsBlock c.vote.new.self plan c.args.input.now
    (record (block_after_kind k plan c.args.input.now block c.args.event.now) { left = left }))
    (sym c.in-Vote.is)
    (c.vote.ensures plan block left shows
    (subst (λ k. StageFor k (block.seats c.args.event.now.replica).stage) c.in-Vote.is stage))

pub returns-in-Sync : goal.returns-in-Sync
returns-in-Sync c plan block left shows stage =
    subst
    (λ k. ShowsBlock c.sync.new.self plan c.args.input.now
    (record (block_after_kind k plan c.args.input.now block c.args.event.now) { left = left }))
    (sym c.in-Sync.is)
    (c.sync.ensures plan block left shows
    (subst (λ k. StageFor k (block.seats c.args.event.now.replica).stage) c.in-Sync.is stage))
