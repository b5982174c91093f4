use Rattle.std.proofs.Common.{SFits, refl, rules, w64, ◌∙◌}
use Rattle.std.proofs.lemmas.Int.{to_z-of_z}
use Rattle.clocked_layer.proofs.ClockLemmas.{clock_seen, rate_read, skew_read}
use Rattle.clocked_layer.proofs.ticks.vote_of.Goals as goal

pub vote-requires : goal.vote-requires
vote-requires c =
    clock_seen _ _ c.requires.of c.args.frame c.args.replica _ _ c.requires.frame
    c.skew.ensures c.rate.ensures

pub returns : goal.returns
returns c = λ plan same.
    let fits : SFits w64 c.vote.result = search rules in
    to_z-of_z w64 c.vote.result fits ∙ c.vote.ensures.value
    ∙ rw (
      same,
      skew_read _ _ c.requires.of c.args.replica _ c.skew.ensures,
      rate_read _ _ c.requires.of c.args.replica _ c.rate.ensures,
    ) refl
