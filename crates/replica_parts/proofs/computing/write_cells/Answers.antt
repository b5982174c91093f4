use Rattle.rcp_base.proofs.FillLaws.{filled_all, filled_more}
use Rattle.rcp_base.specs.Message.{Content}
use Rattle.rcp_base.specs.Tables.{table}
use Rattle.rcp_model.specs.Messages.{own_message}
use Rattle.replica_parts.proofs.ComputingLemmas.{none_before, same_content}
use Rattle.std.proofs.Common.{None, SFits, Some, ap, arith, get_or, if◌then◌else◌, length, length-set, pos, refl, rules, w64, ℕ, ◌∙◌}
use Rattle.std.proofs.lemmas.Int.{to_z-of_z}
use Rattle.vote_pattern.specs.Votes.{is_in}
use Rattle.replica_parts.proofs.computing.write_cells.Goals as goal

pub put_voted-requires-clause-none : goal.put_voted-requires-clause-none
put_voted-requires-clause-none c =
    let f = c.loop-cell.invariant.values in
    f.rest c.loop-cell.cell (omega arith) ∙ ap (λ (m : Content). get_or m.values c.loop-cell.cell None) c.reset.ensures ∙ none_before _ c.loop-cell.cell

pub loop-cell-preserved : goal.loop-cell-preserved
loop-cell-preserved c = record {
  slot = ap (λ (m : Content). m.slot) c.put_voted.ensures ∙ c.loop-cell.invariant.slot;
  values =
      let e = ap (λ (m : Content). m.values) c.put_voted.ensures in
      let g : SFits w64 (get_or c.args.computed.now c.loop-cell.cell (pos 0)) = search rules in
      rw e (filled_more _ _ None _ _ c.loop-cell.cell _ c.loop-cell.invariant.values c.loop-cell-test.true
      (rw (c.has_vote.ensures, to_z-of_z w64 (get_or c.args.computed.now c.loop-cell.cell (pos 0)) g) refl));
  size = ap (λ (m : Content). length m.values) c.put_voted.ensures ∙ length-set _ _ _ ∙ c.loop-cell.invariant.size;
}

pub returns-clause-own : goal.returns-clause-own
unfolding own_message
returns-clause-own c = λ plan s.
    same_content _ _ _ _ (c.loop-cell.invariant.slot ∙ ap (λ (m : Content). m.slot) c.reset.ensures)
    (filled_all _ _ None _ _ c.loop-cell.cell c.loop-cell.invariant.values c.loop-cell-test.false
    ∙ ap (λ (n : ℕ). table n (λ (cell : ℕ). if is_in c.args.votes.now c.args.slot cell then Some (get_or c.args.computed.now cell (pos 0)) else None)) s.cells)
