use Rattle.rcp_model.specs.Uniprocessor.{ProcessorState}
use Rattle.replica_parts.proofs.HoldingLemmas.{held_up, held_down}
use Rattle.std.proofs.Common.{ap, ℕ, ◌∙◌, ◌+◌, ◌%◌}
use Rattle.replica_parts.proofs.holding.sync.Goals as goal

pub returns-then-ballot-clause-held : goal.returns-then-ballot-clause-held
returns-then-ballot-clause-held c = λ plan voted s b.
    held_up plan plan.replicas c.args.ballot.now voted c.args.held.now c.take.new.self b c.if-ballot.true
    (ap (λ (h : ProcessorState). h.slot) c.take.ensures ∙ c.slot_after-slot.ensures ∙ ap (λ (n : ℕ). (c.args.ballot.now.taken + 1) % n) s.slots)
    (ap (λ (h : ProcessorState). h.cells) c.take.ensures ∙ c.as_slice.ensures.value)

pub returns-else-ballot-clause-held : goal.returns-else-ballot-clause-held
returns-else-ballot-clause-held c = λ plan voted s b. held_down plan plan.replicas c.args.ballot.now voted c.args.held.now b c.if-ballot.false
