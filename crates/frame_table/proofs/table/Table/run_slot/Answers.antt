-- The numbers of the slot are those of the plan.
use Rattle.std.proofs.Common.{◌∙◌, [], ap, get_or}
use Rattle.frame_table.proofs.PlanLemmas.{slot_is}
use Rattle.frame_table.proofs.table.Table.run_slot.Goals as goal

pub returns-clause-cells : goal.returns-clause-cells
returns-clause-cells c plan is_of =
    slot_is plan c.args.self.now c.args.slot c.numbers_of-numbers.result.now c.args.sensors.now c.args.cells.now c.run.new.cells is_of
    (c.numbers_of-numbers.ensures ∙ ap (λ slots. get_or slots c.args.slot []) c.as_slice.ensures) c.run.ensures.cells
