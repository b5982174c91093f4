-- The parts of a frame, one after the other.
use Rattle.std.proofs.Common.{◌++◌, ◌≡◌, ◌∷◌, Option, Some, ℤ, length, ap, ap₂, ◌∙◌, arith}
use Rattle.rcp_base.proofs.AddingLaws.{adds_then}
use Rattle.rcp_model.specs.Uniprocessor.{ideal_cells, ideal_command, ideal_slot}
use Rattle.rcp_model.specs.declared.plan.ActuatorRow.{ActuatorRow}
use Rattle.trace_text.specs.Lines.{frame_line, ideal_line}
use Rattle.rcp_top.specs.Ideal.{frame_text, vote_lines}
use Rattle.rcp_top.proofs.CellLemmas.{as_many_cells}
use Rattle.rcp_top.proofs.ideal.write_frame.Goals as goal

pub ideal-requires : goal.ideal-requires
ideal-requires g c =
    let plan = c.args.plan.now in
    let stands = c.requires.stands in
    let past = stands.0 ∷ stands.1 in
    let many : length c.cells.result.now ≡ length plan.cells = ap length (c.cells.ensures plan past stands.2) ∙ as_many_cells plan past in
    omega (arith, many, c.requires.cells)

pub returns : goal.returns
unfolding frame_text
returns g c sensors past stands =
    let plan = c.args.plan.now in
    let command : ActuatorRow → Option ℤ = λ actuator. Some (ideal_command plan actuator sensors past) in
    let now = sensors ∷ past in
    let votes = vote_lines plan.actuators command in
    let last = ideal_line (ideal_slot plan now) (ideal_cells plan now) in
    let line : c.ideal.result.now ≡ last = c.ideal.ensures ∙ ap₂ ideal_line (c.slot.ensures plan now stands) (c.cells.ensures plan now stands) in
    adds_then _ _ _ _ _ _ (frame_line c.args.t) (votes ++ last) (rw c.frame.ensures at c.add-so_far.ensures)
    (adds_then _ _ _ _ _ _ votes last (c.write_votes-so_far.ensures sensors past stands) (rw line at c.add.ensures))
