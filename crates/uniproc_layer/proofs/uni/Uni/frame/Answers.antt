-- The fields are those of one frame more.
use Rattle.std.proofs.Common.{rules, ℤ, List, Some, length, map, refl, ap, sym, ◌∙◌, subst}
use Rattle.std.proofs.lemmas.List.{with_items_is, places}
use Rattle.rcp_model.specs.declared.plan.ActuatorRow.{ActuatorRow}
use Rattle.rcp_model.specs.Slot.{cells_after_slot, actuator_value}
use Rattle.frame_table.specs.declared.table.Table.{Table}
use Rattle.frame_table.specs.Plan.{IsOf}
use Rattle.uniproc_layer.specs.Uni.{Processor, StandsAfter}
use Rattle.uniproc_layer.proofs.UniLemmas.{as_many_commands, frame_stands}
use Rattle.uniproc_layer.proofs.uni.Uni.frame.Goals as goal

pub returns : goal.returns
returns c plan past stands =
    let P : Processor → Type 0 = λ uni. StandsAfter plan past uni in
    let before = subst P (sym c.self.view_is) stands in
    let Q : Table → Type 0 = λ table. IsOf plan table in
    let kept = with_items_is c.self.inside.cells c.run_slot.new.cells (search (rules, places)) in
    let sensors = c.args.sensors.now in
    let commands : List ℤ → List ℤ = λ cells. map (λ (actuator : ActuatorRow). actuator_value actuator sensors cells) plan.actuators in
    frame_stands plan past sensors _ _ c.self.inside.slots before c.self.invariant.0
    (c.evaluate.ensures.table ∙ c.run_slot.ensures.table)
    refl
    (kept ∙ c.run_slot.ensures.cells plan before.table ∙ ap (λ cells. cells_after_slot plan c.self.inside.slot sensors cells) c.as_mut_slice.ensures.value)
    (ap (λ values. Some values) (with_items_is c.self.inside.commands c.evaluate.new.commands (search (rules, places))
    ∙ c.evaluate.ensures.commands plan (subst Q (sym c.run_slot.ensures.table) before.table)
    (ap length c.as_mut_slice-2.ensures.value ∙ as_many_commands plan _ _ before.table c.self.invariant.2)
    ∙ ap commands c.as_slice.ensures.value))
