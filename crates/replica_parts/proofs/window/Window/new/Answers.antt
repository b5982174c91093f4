use Rattle.replica_parts.proofs.SettingLemmas.{clock_read, rate_back, skew_back}
use Rattle.std.proofs.Common.{SFits, refl, rules, w64, ◌∙◌}
use Rattle.std.proofs.lemmas.Int.{to_z-of_z}
use Rattle.replica_parts.proofs.window.Window.new.Goals as goal

pub begin-requires : goal.begin-requires
begin-requires c = (clock_read _ _ c.requires.of c.args.frame c.args.replica _ _ c.requires.frame c.skew-skew.ensures c.rate-rate.ensures).begins

pub vote-requires : goal.vote-requires
vote-requires c = clock_read _ _ c.requires.of c.args.frame c.args.replica _ _ c.requires.frame c.skew-skew.ensures c.rate-rate.ensures

pub returns : goal.returns
returns c = λ plan s.
    let f : SFits w64 c.begin.result = search rules in
    let g : SFits w64 c.vote.result = search rules in
    record {
      opens = to_z-of_z w64 c.begin.result f ∙ c.begin.ensures.value ∙ rw (s.timing, skew_back _ _ c.requires.of c.args.replica _ c.skew-skew.ensures) refl;
      closes = to_z-of_z w64 c.vote.result g ∙ c.vote.ensures.value
          ∙ rw (s.timing, skew_back _ _ c.requires.of c.args.replica _ c.skew-skew.ensures, rate_back _ _ c.requires.of c.args.replica _ c.rate-rate.ensures) refl;
    }
