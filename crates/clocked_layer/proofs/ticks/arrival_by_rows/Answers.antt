use Rattle.std.proofs.Common.{SFits, Some, ap, rules, sym, w64, ◌∙◌}
use Rattle.std.proofs.lemmas.Bool.{cond-false, cond-true}
use Rattle.std.proofs.lemmas.Int.{to_z-of_z}
use Rattle.clocked_layer.proofs.OpeningLemmas.{same_rows}
use Rattle.clocked_layer.proofs.ticks.arrival_by_rows.Goals as goal

pub returns-then-goes_out : goal.returns-then-goes_out
returns-then-goes_out c plan s =
    let fits : SFits w64 c.arrival_of.result = search rules in
    let goes = c.goes_out.ensures plan (same_rows _ _ c.requires.of plan s) in
    ap Some (to_z-of_z w64 c.arrival_of.result fits ∙ c.arrival_of.ensures plan s)
    ∙ sym (cond-true _ _ _ (sym goes ∙ c.if-goes_out.true))

pub returns-else-goes_out : goal.returns-else-goes_out
returns-else-goes_out c plan s =
    let goes = c.goes_out.ensures plan (same_rows _ _ c.requires.of plan s) in
    sym (cond-false _ _ _ (sym goes ∙ c.if-goes_out.false))
