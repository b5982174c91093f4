use Rattle.rcp_model.specs.Ballot.{voted_cell}
use Rattle.std.proofs.Common.{SFits, rules, sym, w64, ◌∙◌}
use Rattle.std.proofs.lemmas.Bool.{cond-false, cond-true}
use Rattle.std.proofs.lemmas.Int.{to_z-of_z}
use Rattle.replica_parts.proofs.voting.vote_cell.Goals as goal

pub returns-then-has_vote-clause-value : goal.returns-then-has_vote-clause-value
unfolding voted_cell
returns-then-has_vote-clause-value c = λ plan s.
    let f : SFits w64 c.chosen.result = search rules in
    let g : SFits w64 c.args.computed = search rules in
    to_z-of_z w64 c.chosen.result f ∙ c.chosen.ensures ∙ rw (c.is_median.ensures plan s, c.as_slice.ensures.value, c.name_values.ensures.values plan s, to_z-of_z w64 c.args.computed g) (sym (cond-true _ _ _ (sym (c.has_vote.ensures) ∙ c.if-has_vote.true)))

pub returns-else-has_vote-clause-value : goal.returns-else-has_vote-clause-value
unfolding voted_cell
returns-else-has_vote-clause-value c = λ plan s.
    let g : SFits w64 c.args.computed = search rules in
    to_z-of_z w64 c.args.computed g ∙ sym (cond-false _ _ _ (sym (c.has_vote.ensures) ∙ c.if-has_vote.false))
