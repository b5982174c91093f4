use Rattle.std.proofs.Common.{◌∙◌, ap, nat_lt, sym}
use Rattle.std.proofs.lemmas.Bool.{and_left, and_right}
use Rattle.replica_parts.proofs.PatternLemmas.{not_in}
use Rattle.replica_parts.proofs.setting.has_vote.Goals.{then-slot-slots, else-slot-slots}
use Rattle.replica_parts.proofs.setting.has_vote.Goals as goal

pub returns-else-cell-cells : goal.returns-else-cell-cells
returns-else-cell-cells c = c.if-cell-cells.false ∙ sym (not_in c.args.votes.now c.args.slot c.args.cell (elim c.if-slot-slots.branch [
  | then-slot-slots w ↦ and_right _ _ (sym (w.value-is ∙ ap (nat_lt c.args.cell) w.cells.ensures.value) ∙ c.if-cell-cells.false)
  | else-slot-slots w ↦ and_left _ _ (sym (w.value-is ∙ ap (nat_lt c.args.slot) c.slots.ensures.value) ∙ c.if-cell-cells.false)
]))
