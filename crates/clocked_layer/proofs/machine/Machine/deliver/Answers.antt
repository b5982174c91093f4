use Rattle.std.proofs.Common.{eq-eqb, ne_eqb, subst, sym, ◌∙◌}
use Rattle.clocked_layer.specs.Block.{block_after_delivery}
use Rattle.clocked_layer.specs.Machine.{ShowsBlock}
use Rattle.clocked_layer.proofs.machine.Machine.deliver.Goals as goal

pub returns-then-event-self : goal.returns-then-event-self
returns-then-event-self c plan block left shows =
    subst
    (λ t. ShowsBlock c.deliver_fresh.new.self plan c.args.input.now (record
    (block_after_delivery t block c.args.event.now.replica c.args.event.now.other) { left = left }))
    (sym (eq-eqb c.args.event.now.frame block.done (c.if-event-self.true ∙ sym shows.done)))
    (c.deliver_fresh.ensures plan block left shows)

pub returns-else-event-self : goal.returns-else-event-self
returns-else-event-self c plan block left shows =
    subst
    (λ t. ShowsBlock c.deliver_late.new.self plan c.args.input.now (record
    (block_after_delivery t block c.args.event.now.replica c.args.event.now.other) { left = left }))
    (sym (ne_eqb c.args.event.now.frame block.done (λ e. c.if-event-self.false (e ∙ shows.done))))
    (c.deliver_late.ensures plan block left shows)
