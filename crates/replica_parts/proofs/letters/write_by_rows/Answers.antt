use Rattle.rcp_model.specs.Messages.{letter_to}
use Rattle.replica_parts.proofs.SettingLemmas.{same_replicas}
use Rattle.std.proofs.Common.{SFits, rules, sym, w64, ◌∙◌}
use Rattle.std.proofs.lemmas.Bool.{cond-false, cond-true}
use Rattle.std.proofs.lemmas.Int.{to_z-of_z}
use Rattle.replica_parts.proofs.letters.write_by_rows.Goals as goal

pub returns-then-goes_out-clause-letter : goal.returns-then-goes_out-clause-letter
unfolding letter_to
returns-then-goes_out-clause-letter c = λ plan s.
    let f : SFits w64 c.arrival_of-place.result = search rules in
    let e = c.arrival_of-place.ensures plan s in
    let m = c.write_message.ensures.message in
    let g = c.goes_out.ensures plan (same_replicas _ _ c.requires.of plan s) in
    rw (to_z-of_z w64 c.arrival_of-place.result f, e, m) (sym (cond-true _ _ _ (sym g ∙ c.if-goes_out.true)))

pub returns-else-goes_out-clause-letter : goal.returns-else-goes_out-clause-letter
unfolding letter_to
returns-else-goes_out-clause-letter c = λ plan s.
    let g = c.goes_out.ensures plan (same_replicas _ _ c.requires.of plan s) in
    sym (cond-false _ _ _ (sym g ∙ c.if-goes_out.false))
