use Rattle.rcp_base.specs.Message.{Content}
use Rattle.replica_parts.proofs.LetterLemmas.{is_message_to}
use Rattle.std.proofs.Common.{ap, arith, length, refl, ◌∙◌}
use Rattle.replica_parts.proofs.letters.shade.Goals as goal

pub returns-clause-message : goal.returns-clause-message
returns-clause-message c =
    is_message_to c.args.input.now c.args.message.now c.args.from c.args.to c.name_slot.new.message c.loop-cell.message c.loop-cell.cell
    c.requires.room
    (c.name_slot.ensures ∙ rw c.lieslot.ensures refl)
    c.loop-cell.invariant.slot c.loop-cell.invariant.values (omega (arith, c.loop-cell-test.false, c.cells-cell-end.ensures, ap (λ (m : Content). length m.values) (c.name_slot.ensures), c.requires.room))
