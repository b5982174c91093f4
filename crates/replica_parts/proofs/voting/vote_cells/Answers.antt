use Rattle.rcp_base.proofs.FillLaws.{filled_all, filled_more}
use Rattle.rcp_base.specs.Tables.{table}
use Rattle.rcp_model.specs.Ballot.{voted_cell, voted_cells}
use Rattle.replica_parts.specs.Places.{message_at}
use Rattle.std.proofs.Common.{SFits, ap, get_or, length-set, pos, rules, w64, ℕ, ◌∙◌}
use Rattle.std.proofs.lemmas.Int.{to_z-of_z}
use Rattle.vote_pattern.specs.Votes.{is_in}
use Rattle.replica_parts.proofs.voting.vote_cells.Goals as goal

pub loop-cell-preserved : goal.loop-cell-preserved
loop-cell-preserved c = record {
  cells = λ plan s. filled_more _ _ (pos 0) _ _ c.loop-cell.cell _ (c.loop-cell.invariant.cells plan s) c.loop-cell-test.true (
      let f : SFits w64 c.vote_cell.result = search rules in
      let g : SFits w64 (get_or c.args.computed.now c.loop-cell.cell (pos 0)) = search rules in
      to_z-of_z w64 c.vote_cell.result f ∙ c.vote_cell.ensures.value plan s ∙ ap (voted_cell plan (is_in c.args.votes.now) c.args.taken (message_at c.args.heard.now) c.loop-cell.cell) (to_z-of_z w64 (get_or c.args.computed.now c.loop-cell.cell (pos 0)) g));
  size = length-set _ _ _ ∙ c.loop-cell.invariant.size;
  places = c.vote_cell.ensures.places;
}

pub returns-clause-cells : goal.returns-clause-cells
unfolding voted_cells
returns-clause-cells c = λ plan s.
    filled_all _ _ (pos 0) _ _ c.loop-cell.cell (c.loop-cell.invariant.cells plan s) c.loop-cell-test.false
    ∙ ap (λ (n : ℕ). table n (λ (cell : ℕ). voted_cell plan (is_in c.args.votes.now) c.args.taken (message_at c.args.heard.now) cell (get_or c.args.computed.now cell (pos 0)))) s.cells
