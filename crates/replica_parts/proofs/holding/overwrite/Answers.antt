use Rattle.rcp_base.proofs.FillLaws.{filled_more}
use Rattle.rcp_model.specs.Uniprocessor.{ProcessorState}
use Rattle.replica_parts.proofs.HoldingLemmas.{is_overwritten}
use Rattle.std.proofs.Common.{refl, ◌∙◌, sym, ap, pos, ap₂, arith, SFits, rules, w64, unwrap_or}
use Rattle.std.proofs.lemmas.Int.{to_z-of_z}
use Rattle.replica_parts.proofs.holding.overwrite.Goals as goal

pub returns-clause-held : goal.returns-clause-held
returns-clause-held c = λ plan s.
    is_overwritten plan c.args.input.now c.args.replica c.args.held.now c.set_slot.new.self c.loop-cell.held _ c.loop-cell.cell (sym s.cells)
    (c.set_slot.ensures ∙ rw (c.unwrap_or.ensures, c.slot.ensures, c.slot-2.ensures) refl)
    c.loop-cell.invariant.slot c.loop-cell.invariant.cells c.loop-cell-test.false

pub loop-cell-preserved : goal.loop-cell-preserved
loop-cell-preserved c = record {
  slot = ap (λ (h : ProcessorState). h.slot) c.set_cell.ensures ∙ c.loop-cell.invariant.slot;
  cells =
      let e = ap (λ (h : ProcessorState). h.cells) c.set_cell.ensures in
      rw e (filled_more _ _ (pos 0) _ _ c.loop-cell.cell _ c.loop-cell.invariant.cells c.loop-cell-test.true (
      let g : SFits w64 c.unwrap_or-value.result = search rules in
      let h : SFits w64 c.cell-in-loop-cell.result = search rules in
      to_z-of_z w64 c.unwrap_or-value.result g ∙ c.unwrap_or-value.ensures
      ∙ ap₂ unwrap_or c.cell.ensures (to_z-of_z w64 c.cell-in-loop-cell.result h ∙ c.cell-in-loop-cell.ensures ∙ c.loop-cell.invariant.cells.rest c.loop-cell.cell (omega arith))));
}
