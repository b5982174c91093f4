use Rattle.std.proofs.Common.{SFits, refl, rules, w64, ◌∙◌}
use Rattle.std.proofs.lemmas.Int.{to_z-of_z}
use Rattle.clocked_layer.proofs.ClockLemmas.{begin_seen, skew_read}
use Rattle.clocked_layer.proofs.ticks.begin_of.Goals as goal

pub begin-requires : goal.begin-requires
begin-requires c =
    begin_seen _ _ c.requires.of c.args.frame c.args.replica _ c.requires.frame c.skew.ensures

pub returns : goal.returns
returns c = λ plan same.
    let fits : SFits w64 c.begin.result = search rules in
    to_z-of_z w64 c.begin.result fits ∙ c.begin.ensures.value
    ∙ rw (same, skew_read _ _ c.requires.of c.args.replica _ c.skew.ensures) refl
